use Rattle.std.proofs.Common.{◌≡◌, length, ap, ◌∙◌, refl, None, ◌-◌, option_to_list, is_some, arith}
use Rattle.std.specs.Int.{from_bool}
use Rattle.bpaf_words.specs.Arguments.{env_of, given_name}
use Rattle.bpaf_line.specs.Situation.{Context, beginning}
use Rattle.bpaf_line.specs.{declared.state.State.TheInside.Inside, Inside.situation_of}
use Rattle.bpaf_line.proofs.Sound.{sound_beginning, begins}
use Rattle.bpaf_line.proofs.state.State.of_line.Goals.{After-nothing}
use Rattle.bpaf_line.proofs.state.State.of_line.Goals as goal

-- the context of the line
context_is : After-nothing → Context
context_is c = record {
  line = c.args.line.items.items;
  marker = c.args.line.marker;
  env = env_of c.args.args;
  name = given_name c.args.args;
}

-- what the state is made of
inside : After-nothing → Inside
inside c = record {
  items = c.args.line.items;
  marker = c.args.line.marker;
  env = c.in_ok-env.env;
  keys_end = c.count_to_last_key-keys_end.result;
  behind = c.count_to_last_key-keys_end.result;
  chains = c.in_ok-chains.chains;
  bits = c.in_ok-bits.bits;
  trail = c.in_ok-with_capacity.field-0;
  conflicts = c.new.result;
  start = 0;
  end = c.len-end.result;
  left = c.len-end.result - c.from.result;
  first = c.first_clear-first.result;
  aside = c.nothing.result;
  path = c.in_ok-path.path;
  name = c.in_ok-path.name;
  current = None;
}

-- the end of the scope is the end of the line
size : (c : After-nothing) → c.len-end.result ≡ length c.args.line.items.items
size c = c.len-end.ensures ∙ c.args.line.items.ok.0

-- it is at the beginning of that line
start : (c : After-nothing) → situation_of (inside c) ≡ beginning (context_is c)
unfolding inside context_is
start c = begins (inside c) (context_is c) refl refl (c.in_ok-env.ensures ∙ c.env.ensures)
    (c.in_ok-path.ensures.name ∙ c.name.ensures) c.in_ok-with_capacity.ensures.items
    c.new.ensures.items refl (size c) (c.in_ok-path.ensures.path ∙ ap option_to_list c.name.ensures)
    refl

pub invariant_of-result : goal.invariant_of-result
unfolding context_is inside
invariant_of-result c =
    sound_beginning (inside c) (context_is c) (start c) c.requires
    (omega (arith, size c, c.in_ok-bits.ensures.room)) c.in_ok-bits.ensures.bits
    (omega (arith, size c, c.in_ok-with_capacity.ensures.capacity))
    (ap (λ k. c.len-end.result - k) (c.from.ensures ∙ ap from_bool c.is_some.ensures)
    ∙ ap (λ m. m - from_bool (is_some c.args.line.marker)) (size c))
    (rw (c.deref.ensures.value, size c) at c.first_clear-first.ensures)
    (rw c.deref-2.ensures.value at c.count_to_last_key-keys_end.ensures.keyless)
    (rw c.deref-3.ensures.value at c.in_ok-chains.ensures) c.nothing.ensures refl
    (rw c.deref-2.ensures.value at c.count_to_last_key-keys_end.ensures.within)

pub returns : goal.returns
unfolding context_is inside
returns c = start c
