-- A value dealt out of the words is a launch that they ask for; all print the same lines.
use Rattle.std.proofs.Common.{◌++◌, All, Bool, IsUtf8, List, ap, codes, ℕ, ◌≡◌, None, IfOk, Ok}
use Rattle.std.proofs.Common.{Err, Result, map, inl, inr, string_bytes, subst, sym, true≢false, ◌∙◌}
use Rattle.std.specs.List.{Contains}
use Rattle.bpaf_exact.specs.{Flat.FrontOf, Flat.SingleValue, Flat.gap_of, Pieces.LinePiece}
use Rattle.bpaf_exact.specs.{Pieces.others, ProgramForm.WordValue, ProgramForm.flag_roles}
use Rattle.bpaf_exact.specs.Says.{WordSays}
use Rattle.bpaf_exact.proofs.Says.{list_says, front_says, word_says}
use Rattle.bpaf_record.proofs.Answered.{flag_leaves, line_behind, name_before, strict_words}
use Rattle.bpaf_program.proofs.OfCommands.{NonStrict, ParseFailure, Strict, String, accepts, line}
use Rattle.bpaf_program.proofs.OfCommands.{line_each, texts_are, truth, word_before, words_before}
use Rattle.bpaf_program.proofs.OfCommands.{words_behind}
use Rattle.bpaf_program.proofs.OfCommands as of
use Rattle.example_launch.specs.declared.options.Launch.{Launch}
use Rattle.example_launch.specs.Running as run

-- of a launch the lines are seen
pub same_lines : (words : List (List ℕ)) → All IsUtf8 words
    → of.Alike run.lines (run.IsLaunchValue words)
same_lines words =
    of.program_looks_one run.launcher
    (of.con_seen run.launch_of run.lines
    (λ x y same. ap (λ (seen : Bool × (Bool × (List ℕ × List (List ℕ)))).
    line (codes "verbose: " ++ truth seen.0) ++ line (codes "dry run: " ++ truth seen.1.0)
    ++ line (codes "name: " ++ seen.1.1.0) ++ line_each (codes "word: ") seen.1.1.1) same)
    (of.both_seen of.switch_seen (of.both_seen of.switch_seen
    (of.both_seen of.text_word_seen (of.alone_seen (of.many_seen of.text_word_seen))))))
    (run.program_given words)

-- what the name says of its piece
name_says : (os : List LinePiece) (v : String)
    → SingleValue String (FrontOf String (WordValue (accepts NonStrict) of.MeansText))
    (gap_of of.MeansText None) os v → WordSays (accepts NonStrict) of.MeansText os v
name_says os v (inl g) = subst (λ os. WordSays (accepts NonStrict) of.MeansText os v) (sym g.1)
    (word_says (accepts NonStrict) of.MeansText g.0 v g.2)
name_says os v (inr e) = absurd e.1

-- what is passed on are all words behind the first `--`
launch_passes : (own : List (List ℕ)) (v : Launch) → run.IsLaunchValue own v
    → map string_bytes v.words.items ≡ words_behind own
launch_passes own v value =
    let cut = value.read.cut_into in
    let left = others (flag_roles run.dry_run_names) (others (flag_roles run.verbose_names) cut) in
    let launch = value.read.read in
    let words = launch.read.1.1 in
    let told = list_says (WordSays (accepts Strict) of.MeansText)
    (FrontOf String (WordValue (accepts Strict) of.MeansText)) (gap_of of.MeansText None)
    (front_says (WordValue (accepts Strict) of.MeansText) (word_says (accepts Strict) of.MeansText))
    (λ v none. absurd none) _ _ words.1.0.read in
    ap (λ launch. map string_bytes launch.words.items) launch.made
    ∙ (ap (map string_bytes) words.1.0.made
    ∙ (texts_are _ words.1.0.from (strict_words told)
    ∙ (name_before left (name_says _ _ words.0)
    ∙ (flag_leaves run.dry_run_names (others (flag_roles run.verbose_names) cut)
    ∙ (flag_leaves run.verbose_names cut ∙ line_behind value.on_line value.read.cut)))))

-- the words ask for the launch that is dealt out of them
pub launch_asked : (own : List (List ℕ)) (r : Result Launch ParseFailure)
    → IfOk r (run.IsDealtLaunch own) → run.AnswersLaunch own r → IfOk r (run.IsLaunchOf own)
launch_asked own (Ok v) dealt exact =
    let found = dealt.read.read.rest_read.rest_read.first_read in
    record {
      dealt = dealt;
      named = subst (λ launch. Contains (words_before own) (string_bytes launch.name))
          (sym dealt.read.made)
          (subst (Contains (words_before own)) (sym found.meant)
          (word_before (of.program_names run.launcher)
          (λ c is. absurd (true≢false (sym is.as_argument))) (run.program_given own)
          dealt.is_context found));
      passed = launch_passes own v exact.sound;
    }
launch_asked own (Err f) dealt exact = tt
