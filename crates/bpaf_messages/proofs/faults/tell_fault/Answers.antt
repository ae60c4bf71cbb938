use Rattle.std.proofs.Common.{refl, subst, inr, None}
use Rattle.bpaf_words.specs.Arguments.{env_of, given_name}
use Rattle.bpaf_messages.specs.Rendering.{Renders}
use Rattle.bpaf_messages.proofs.faults.tell_fault.Goals as goal

pub returns-in-Ok : goal.returns-in-Ok
returns-in-Ok c = inr (
  record {
    line = c.new.result.items;
    marker = None;
    env = env_of c.args.args;
    name = given_name c.args.args;
  },
  c.new.ensures.items,
  refl,
  subst (λ s. Renders c.args.message s c.render.result) c.in-Ok.ensures c.render.ensures,
)
