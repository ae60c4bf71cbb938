use Rattle.std.proofs.Common.{[], ◌∷◌, ◌++◌, ap, ◌∙◌, sym, rules, true, false, refl, encode_utf8}
use Rattle.std.proofs.Common.{append-nil, length}
use Rattle.std.proofs.{lemmas.List.nil_from_length, lemmas.Bool.eqb-false, lemmas.Bool.eqb-true}
use Rattle.bpaf_base.specs.declared.arg.Arg.TheVariants.{Short, Word, ArgWord}
use Rattle.bpaf_words.specs.Line.{dash, short}
use Rattle.bpaf_words.proofs.LineLemmas.{other_than_dash, at_equals, no_equals, with_value}
use Rattle.bpaf_words.proofs.LineLemmas.{are_joined, first_letter}
use Rattle.bpaf_words.proofs.split.split_dashed.Goals.{then-is_empty-2, else-is_empty-2}
use Rattle.bpaf_words.proofs.split.split_dashed.Goals as goal

pub returns-in_default-next : goal.returns-in_default-next
returns-in_default-next c names =
    let empty = nil_from_length _
    (ap length (sym c.chars-letters.ensures.rest) ∙ c.in_default-next.ensures.steps.0.0) in (
      Word c.args.word.now ∷ [],
      dash (c.requires.dashed ∙ ap (λ x. 45 ∷ x) empty),
      c.in_ok-push_word.ensures,
    )

pub returns-then-is_empty : goal.returns-then-is_empty
returns-then-is_empty c names =
    let none = c.in_default.ensures in
    let starts = first_letter c.args.rest.now _ c.in-Some-next.c _ c.as_str-tail.result.now
    c.chars-letters.ensures.rest c.in-Some-next.ensures.steps.0 c.as_str-tail.ensures in
    let empty = nil_from_length _ (eqb-true _ 0 (sym c.if-is_empty.ensures)) in (
      Short c.in-Some-next.c false c.args.word.now ∷ [],
      short c.in-Some-next.c
          (c.requires.dashed ∙ ap (λ x. 45 ∷ x) (starts
          ∙ (ap (λ x. encode_utf8 c.in-Some-next.c ++ x) empty ∙ append-nil _)))
          (other_than_dash c.args.rest.now c.as_str-tail.result.now c.in-Some-next.c none starts),
      c.in_ok-push_flag.ensures,
    )

pub returns-in_default-split_once : goal.returns-in_default-split_once
returns-in_default-split_once c =
    let none = c.in_default.ensures in
    let starts = first_letter c.args.rest.now _ c.in-Some-next.c _ c.as_str-tail.result.now
    c.chars-letters.ensures.rest c.in-Some-next.ensures.steps.0 c.as_str-tail.ensures in (
      are_joined c.args.word.now c.args.rest.now c.as_str-tail.result.now c.in-Some-next.c
          c.utf8.word c.requires.dashed starts
          (other_than_dash c.args.rest.now c.as_str-tail.result.now c.in-Some-next.c none starts)
          (λ z. eqb-false _ 0 (sym c.if-is_empty.ensures) z)
          (no_equals c.as_str-tail.result.now c.in_default-split_once.ensures.cases),
      refl,
    )

pub returns : goal.returns
returns c names =
    let none = c.in_default.ensures in
    let starts = first_letter c.args.rest.now _ c.in-Some-next.c _ c.as_str-tail.result.now
    c.chars-letters.ensures.rest c.in-Some-next.ensures.steps.0 c.as_str-tail.ensures in
    let parts = at_equals c.as_str-tail.result.now c.in-Some-split_once.name
    c.in-Some-split_once.value c.in-Some-split_once.ensures.cases in (
      Short c.in-Some-next.c true c.args.word.now ∷ ArgWord c.if-is_empty-2.value.now ∷ [],
      with_value names c.args.word.now c.args.rest.now c.as_str-tail.result.now
          c.in-Some-split_once.name.now c.in-Some-split_once.value.now c.if-is_empty-2.value.now
          c.in-Some-next.c c.requires.dashed starts
          (other_than_dash c.args.rest.now c.as_str-tail.result.now c.in-Some-next.c none starts)
          parts.0 parts.1
          (λ z. elim c.if-is_empty-2.branch [
            | then-is_empty-2 w ↦ ap (λ r. r.now) w.value-is
            | else-is_empty-2 w ↦ absurd (eqb-false _ 0 (sym w.if-is_empty-2.ensures) z)
          ])
          (λ z. elim c.if-is_empty-2.branch [
            | then-is_empty-2 w ↦ absurd (z (eqb-true _ 0 (sym w.if-is_empty-2.ensures)))
            | else-is_empty-2 w ↦ ap (λ r. r.now) w.value-is
          ]),
      search rules,
    )
