use Rattle.std.proofs.Common.{◌∙◌, ◌≡◌, None, sym, subst}
use Rattle.bpaf_index.specs.Chained.{IsNoted, class_of}
use Rattle.bpaf_index.proofs.Chained.{noted_long}
use Rattle.bpaf_index.proofs.classes.NameClasses.note.Goals as goal

pub returns-in_ok-insert-in-Long : goal.returns-in_ok-insert-in-Long
returns-in_ok-insert-in-Long c =
    let longs = c.insert-in-Long.new.self in
    let item = c.args.item.now in
    subst (λ names. class_of names item ≡ None → IsNoted names
    (record { shorts = c.self.inside.shorts.entries; longs = longs.entries }) item c.args.next
    c.args.next) c.self.view_is (λ none. noted_long _ c.self.inside.longs longs
    c.in_ok-from_str-in-Long.field-0 c.args.next item c.in-Long.is
    (c.in_ok-from_str-in-Long.ensures.ok ∙ c.as_str.ensures) none
    c.in_ok-insert-in-Long.ensures.updates) (sym c.class_of.ensures ∙ c.in_default.is)
