use Rattle.std.proofs.Common.{ap, codes, None, rules, ◌∙◌}
use Rattle.bpaf_program.proofs.OfCommands as of
use Rattle.example_notes.specs.Notes as notes
use Rattle.example_notes.specs.declared.options.Tag.TheVariants as tag
use Rattle.example_notes.specs.declared.options.Task.TheVariants as task
use Rattle.example_notes.proofs.options.read_notes.Goals as goal

pub run_program-requires-clause-can : goal.run_program-requires-clause-can
run_program-requires-clause-can c =
    let commands = ap (λ x. x.fields.rest.rest.last) c.into_options.ensures.inner
    ∙ ap (λ x. x.rest.rest.last) c.construct-notes.ensures.fields in
    let others = ap (λ x. x.that) commands ∙ c.construct-task.ensures.that in
    let on_tag = ap (λ x. x.that.inner) others ∙ ap (λ x. x.inner) c.construct-others.ensures.that
    ∙ c.map-tag.ensures.inner in
    let tags = ap (λ x. x.inner) on_tag ∙ c.plain_command.ensures.inner in
    let add = ap (λ x. x.this.inner) commands ∙ ap (λ x. x.inner) c.construct-task.ensures.this
    ∙ c.map-add.ensures.inner in
    let list = ap (λ x. x.this.inner) others ∙ ap (λ x. x.inner) c.construct-others.ensures.this
    ∙ c.map-list.ensures.inner in
    let add_tag = ap (λ x. x.this.inner) tags ∙ ap (λ x. x.inner) c.construct.ensures.this
    ∙ c.map-add_tag.ensures.inner in
    let remove_tag = ap (λ x. x.that.inner) tags ∙ ap (λ x. x.inner) c.construct.ensures.that
    ∙ c.map-remove_tag.ensures.inner in (
      search rules,
      of.con_known notes.notes_of notes.fields (of.both_known _ _
          (of.switch_known notes.verbose_names None (search rules) (search rules) (search rules))
          (of.both_known _ _ (of.optional_known
          (of.argument_known of.MeansText notes.dir_key (search rules)) (search rules))
          (of.last_known _ (of.choice_known _ _
          (of.map_known notes.add_of _ (rw (← add) at c.add.ensures) (λ x v e. search rules))
          (of.choice_known _ _
          (of.map_known task.List _ (rw (← list) at c.list.ensures) (λ x v e. search rules))
          (of.map_known task.Tag notes.on_tag (of.command_known (codes "tag") _
          c.plain_command.ensures on_tag (of.choice_known _ _
          (of.map_known tag.Add _ (rw (← add_tag) at c.named.ensures) (λ x v e. search rules))
          (of.map_known tag.Remove _ (rw (← remove_tag) at c.named-2.ensures)
          (λ x v e. search rules)))) (λ x v e. search rules))))))) (λ x v e. search rules),
    )

pub returns : goal.returns
returns c =
    let made = c.into_options.ensures in (
      of.exact_for notes.notes_parser (c.run_program.ensures.exact tt) made.info (search rules)
          (of.are_texts c.args.words.now),
      of.page_asked _ notes.notes_parser _ _ c.run_program.ensures.named made.info (search rules),
    )
