-- One parser more in a choice of any number.
use Rattle.std.proofs.Common.{List, refl, ◌++◌, ◌≡◌, ◌∷◌, Result, []}
use Rattle.bpaf_doc.specs.Shape.{Shape}
use Rattle.bpaf_line.specs.{declared.error.Error.Error, Situation.Situation}
use Rattle.bpaf_laws.specs.Choice.{Nested}
use Rattle.bpaf_grammar.specs.Grammar.{Grammar, choice, describes_of, outcome_of}

module _ {P T : Type 0} (of : P → Grammar T) where
  -- one more is chosen last
  pub nested_more : (g : Grammar T) (ps : List P) (q : P)
      → Nested choice of g (ps ++ q ∷ []) ≡ choice (Nested choice of g ps) (of q)
  nested_more g [] q = refl
  nested_more g (p ∷ ps) q = nested_more (choice g (of p)) ps q

  -- the answers of a choice with one parser more behind it
  pub answer_more : (g : Grammar T) (ps : List P) (q : P) (s : Situation) (r : Result T Error)
      (t : Situation) → outcome_of (choice (Nested choice of g ps) (of q)) s r t
      → outcome_of (Nested choice of g (ps ++ q ∷ [])) s r t
  answer_more g [] q s r t o = o
  answer_more g (p ∷ ps) q s r t o = answer_more (choice g (of p)) ps q s r t o

  -- the shape of a choice with one parser more behind it
  pub shown_more : (g : Grammar T) (ps : List P) (q : P) (shape : Shape)
      → describes_of (choice (Nested choice of g ps) (of q)) shape
      → describes_of (Nested choice of g (ps ++ q ∷ [])) shape
  shown_more g [] q shape shown = shown
  shown_more g (p ∷ ps) q shape shown = shown_more (choice g (of p)) ps q shape shown
