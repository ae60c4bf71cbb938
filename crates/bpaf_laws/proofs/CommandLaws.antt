-- Behind the word of a command: what opening its scope keeps, and what is read there.
use Rattle.std.proofs.lemmas.Bool.Decides.{nat_tests}
use Rattle.std.proofs.Common.{◌≡◌, ℕ, true, List, length, arith}
use Rattle.bpaf_base.specs.Items.{any_item}
use Rattle.bpaf_line.specs.Situation.{Situation, is_open, open_count, take_place}
use Rattle.bpaf_line.proofs.Places.{open_in_line, open_in_scope, taken_stays, match_is_open}
use Rattle.bpaf_line.proofs.Places.{open_has_item}
use Rattle.bpaf_laws.specs.Command.{Called, CommandReads, IsOpenedAt, LeavesNothing, inside, opened}
use Rattle.bpaf_laws.specs.{Reading.Readings, Reading.HasItem, Reading.IsPlace, Command.is_one_of}
use Rattle.bpaf_laws.specs.{Command.opening_words, Laws.Keeps, Laws.Closes, Laws.Reads}
use Rattle.bpaf_laws.proofs.Keeping.{keeps_path, keeps_scope, keeps_take, newly_take, reads_as}
use Rattle.bpaf_laws.proofs.Keeping.{none_below, reads_both}

module _ (words : List (List ℕ)) (s : Situation) (p : ℕ) (at : IsOpenedAt words s p) where
  -- the word is present, and in scope
  pub word_is_open : is_open s p ≡ true
  word_is_open = match_is_open any_item s p at.first.matches

  -- what taking it keeps, and the scope behind it
  pub keeps_opened : Keeps s (opened s p)
  keeps_opened =
      let there = open_in_scope s p word_is_open in
      keeps_scope s (take_place s p) p s.end (keeps_take s p word_is_open)
      (λ q within. grind (arith, nat_tests))

-- where nothing is present any more in scope, all that was in scope is taken
pub leaves_nothing : (s t : Situation) → Closes s t → open_count t ≡ 0 → LeavesNothing s t
leaves_nothing s t closed none q within =
    let open_none = none_below (is_open t) (length t.context.line) none q in
    grind (arith, open_in_line t q, closed q within)

module _ (called : Called) (s : Situation) (p : ℕ)
    (at : IsOpenedAt (opening_words called) s p) where
  -- what going inside a command keeps
  pub keeps_inside : Keeps s (inside called s p)
  keeps_inside = keeps_path s (opened s p) called.name (keeps_opened (opening_words called) s p at)

  -- the command's word is read
  pub word_read : Reads ℕ (λ line own q. HasItem (is_one_of (opening_words called)) line q
      × IsPlace q own) s p (inside called s p)
  word_read =
      grind (arith, nat_tests, keeps_inside, taken_stays, open_has_item, newly_take, word_is_open)

  -- what is read inside a command is a reading of the command
  pub inside_read : {T : Type 0} {reads : Readings T} (v : T) (t : Situation)
      → Reads T reads (inside called s p) v t
      → Reads T (CommandReads T (opening_words called) reads) s v t
  inside_read v t read = reads_as (reads_both word_read read)
      (λ both. record { name = p; read = both })
