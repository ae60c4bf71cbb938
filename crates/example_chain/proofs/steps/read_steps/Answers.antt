use Rattle.std.proofs.Common.{◌≡◌, ap₂, map, refl, rules, string_bytes}
use Rattle.bpaf_program.proofs.OfCommands as of
use Rattle.example_chain.specs.Running as chain
use Rattle.example_chain.proofs.steps.read_steps.Goals as goal

pub returns : goal.returns
returns c =
    let options = c.into_options-steps.result in
    let steps = options.inner.inner in
    let go : steps.this.this.inner ≡ c.in_ok-go.go = search rules in
    let turn : steps.this.that.inner ≡ c.in_ok-turn.turn = search rules in
    let repeat : steps.that.inner ≡ c.in_ok-repeat.repeat = search rules in
    let known = of.many_known (of.choice_known _ _ (of.choice_known _ _
    (of.map_known _ chain.go_parser (rw (← go) at c.in_ok-go.ensures) (λ x step e. search rules))
    (of.map_known _ chain.turn_parser (rw (← turn) at c.in_ok-turn.ensures)
    (λ x step e. search rules)))
    (of.map_known _ chain.repeat_parser (rw (← repeat) at c.in_ok-repeat.ensures)
    (λ n step e. search rules))) (search rules) in
    let info : options.info ≡ of.plain_info = search rules in
    let given : of.given_of c.set_name.result
    ≡ chain.program_given (map string_bytes c.args.words.now) = search rules in
    record {
      dealt = of.also_dealt known.also _ c.run_once.ensures.dealt
          (ap₂ of.known_names info known.shown) given;
      asked = of.asks_for_page chain.steps_parser _ c.run_once.ensures.outcome known
          (λ info. info ≡ of.plain_info) info (rw info refl) given;
    }
