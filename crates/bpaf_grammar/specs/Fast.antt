-- A product of which a failing first field is the end, as a parser of its own: an adjacent group
-- looks for its first item so.
use Rattle.bpaf_grammar.specs.Grammar.{FieldsGrammar, alone, both, describes_of, fast_outcome_of}
use Rattle.bpaf_laws.specs.{Product.ProductDescribes, Product.ProductOutcome, Combinators.MapReads}
use Rattle.bpaf_laws.specs.Laws.{IsNotMemory, Spares}
use Rattle.bpaf_laws.proofs.ProductLaws.{fail_fast_spares, product_lawful, product_spares}
use Rattle.bpaf_laws.proofs.ShownNames.{product_shows}
use Rattle.bpaf_grammar.specs.Grammar.{fast_spared_of, outcome_of, reads_of, shorts_of, spared_of}
use Rattle.bpaf_grammar.specs.{Laws.fast_lawful_of, Laws.fields_show, Laws.spares_fields, Own.Own}

-- such fields catch no want of memory
pub fast_spares : {V : Type 0} (g : FieldsGrammar V) → Spares (fast_outcome_of g) (fast_spared_of g)
fast_spares (alone g) s t r o spared = (o, spared)
fast_spares (both g h) s t r o spared = fail_fast_spares (outcome_of g) (outcome_of h)
    (spared_of h) (spares_fields h) s t r o spared

-- the product
abbrev pub fast_product : {V T : Type 0} → (makes : V → T → Type 0) → FieldsGrammar V → Own T
fast_product {V} {T} makes g = record {
  outcome = ProductOutcome (fast_outcome_of g) makes;
  reads = MapReads V T (reads_of g) makes;
  describes = ProductDescribes (describes_of g);
  shorts = shorts_of g;
  spared = λ s r t. IsNotMemory r → ProductOutcome (fast_spared_of g) makes s r t;
  lawful = product_lawful makes (fast_lawful_of g);
  shows = product_shows (fields_show g);
  spares = λ s t r o. product_spares (fast_outcome_of g) (fast_spared_of g) makes (fast_spares g) s
      t
      r o;
}
