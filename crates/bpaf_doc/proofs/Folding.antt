-- Texts cut at their first empty line, folded line by line, what prints nothing, and the members of
-- a shape.
use Rattle.std.proofs.Common.{◌≡◌, ℕ, suc, ◌<◌, ◌≤◌, Bool, true, false, not, ◌&&◌, ◌||◌, ◌==◌, List}
use Rattle.std.proofs.Common.{[], ◌∷◌, ◌++◌, length, drop, if◌then◌else◌, refl, ap, sym, ◌∙◌, arith}
use Rattle.std.proofs.Common.{subst, Some, None, option_map, get_or, drop-cons, ◌≢◌}
use Rattle.std.proofs.Common.{slice_index, zero, append_assoc, Vec, map, ◌+◌, add-one}
use Rattle.std.specs.Prelude.{filter, flat_map}
use Rattle.bpaf_doc.specs.Print.{folded, empty_line, begins_with_empty_line, cut_at_empty_line}
use Rattle.bpaf_doc.specs.Print.{folded_whole, text_pieces, pieces_of_parts, printed}
use Rattle.bpaf_doc.specs.Print.{is_blank, folded_after, keeps_break, break_or_space, break_between}
use Rattle.bpaf_doc.specs.Print.{HasNoBreak, detail, shown_as}
use Rattle.bpaf_doc.specs.Shape.{Part, shape_of, Shape, Or, alternatives, members, part_layer}
use Rattle.bpaf_doc.specs.Shape.{shape_layer, shapes_of, member_shapes, ◌then◌}
use Rattle.bpaf_doc.specs.declared.doc.Style.TheVariants as style
use Rattle.bpaf_doc.specs.declared.meta.Meta as meta
use Rattle.std.proofs.{lemmas.List.Concat.flat_map-append, lemmas.List.Elements.filter-append}
use Rattle.std.proofs.lemmas.Bool.Decides.{nat_tests}
use Rattle.std.specs.{Str.Pattern.LacksTextAt, declared.alloc.Global.Global}
use Rattle.bpaf_doc.specs.{declared.doc.Piece.Piece, declared.item.Item.TheFolds.fold-roll-Meta}
use Rattle.bpaf_doc.specs.{declared.meta.Meta.Meta, declared.item.Item.TheOpen.Meta-F}

-- where no empty line stands first, the test says so
lacks_first : (text : List ℕ) → LacksTextAt empty_line text 0 → begins_with_empty_line text ≡ false
lacks_first [] lacks = refl
lacks_first (c ∷ []) lacks = refl
lacks_first (c ∷ d ∷ rest) lacks = let none = lacks rest in grind (arith, nat_tests)

-- one character more, where no empty line stands first
cut_later : (c : ℕ) (rest : List ℕ) → LacksTextAt empty_line (c ∷ rest) 0
    → cut_at_empty_line (c ∷ rest)
    ≡ option_map (λ parts. (c ∷ parts.0, parts.1)) (cut_at_empty_line rest)
cut_later c rest lacks =
    ap (λ x. if x then Some ([], drop 1 rest)
    else option_map (λ parts. (c ∷ parts.0, parts.1)) (cut_at_empty_line rest))
    (lacks_first (c ∷ rest) lacks)

-- a text without an empty line isn't cut
uncut : (text : List ℕ) → ((i : ℕ) → i ≤ length text → LacksTextAt empty_line text i)
    → cut_at_empty_line text ≡ None
uncut [] lacks = refl
uncut (c ∷ rest) lacks =
    cut_later c rest (lacks 0 (omega arith)) ∙ ap (option_map (λ parts. (c ∷ parts.0, parts.1)))
    (uncut rest (λ i within. lacks (suc i) (omega arith)))

-- a text is cut at its first empty line
cut_here : (before after : List ℕ)
    → ((i : ℕ) → i < length before → LacksTextAt empty_line (before ++ (empty_line ++ after)) i)
    → cut_at_empty_line (before ++ (empty_line ++ after)) ≡ Some (before, after)
cut_here [] after lacks = refl
cut_here (c ∷ before) after lacks =
    cut_later c (before ++ (empty_line ++ after)) (lacks 0 (omega arith))
    ∙ ap (option_map (λ parts. (c ∷ parts.0, parts.1)))
    (cut_here before after (λ i within. lacks (suc i) (omega arith)))

-- a text around its first empty line is cut there
cut_text : (text before after : List ℕ) → text ≡ before ++ (empty_line ++ after) → (i : ℕ)
    → ((k : ℕ) → k < i → LacksTextAt empty_line text k) → length before ≡ i
    → cut_at_empty_line text ≡ Some (before, after)
cut_text text before after is i lacks ends =
    ap cut_at_empty_line is ∙ cut_here before after
    (subst (λ (x : List ℕ). (k : ℕ) → k < length before → LacksTextAt empty_line x k) is
    (λ k within. lacks k (omega arith)))

-- what is printed of two lists of pieces, one behind the other
pub printed_both : (full : Bool) (front back : List Piece)
    → printed full (front ++ back) ≡ printed full front ++ printed full back
printed_both full front back =
    let shows : Piece → Bool = λ piece. full || not piece.detail in
    ap (flat_map (λ (piece : Piece). piece.text)) (filter-append shows front back)
    ∙ flat_map-append (λ (piece : Piece). piece.text) (filter shows front) (filter shows back)

-- what a full print shows where the pieces of a text were appended
pub printed_text : (text : List ℕ) (old new : List Piece) → new ≡ old ++ text_pieces text
    → printed true new ≡ printed true old ++ folded_whole text
printed_text text old new put = ap (printed true) put ∙ printed_both true old (text_pieces text)

-- a text before another is not empty where it isn't
not_nil : (text rest : List ℕ) → (length text == 0) ≡ false → is_blank (text ++ rest) ≡ false
not_nil [] rest some = cc
not_nil (c ∷ text) rest some = refl

-- a document that has a piece of some text is not empty
pub not_empty : (pieces : List Piece) (i : ℕ) (piece : Piece) → i < length pieces
    → piece ≡ get_or pieces i piece → (length piece.text == 0) ≡ false
    → is_blank (printed true (drop i pieces)) ≡ false
not_empty pieces i piece within here some =
    let opened : drop i pieces ≡ piece ∷ drop (suc i) pieces =
    drop-cons pieces i piece within ∙ ap (λ x. x ∷ drop (suc i) pieces) (sym here) in
    subst (λ x. is_blank (printed true x) ≡ false) (sym opened) (not_nil piece.text _ some)

-- Folded texts, line by line.

-- one character, where it is known whether it is a line break
folded_character : (after : Bool) (c : ℕ) (rest : List ℕ) (is_break : Bool) → (c == 10) ≡ is_break
    → folded_after after (c ∷ rest)
    ≡ (if is_break && not (after || keeps_break rest) then 32 else c) ∷ folded_after is_break rest
folded_character after c rest is_break known =
    ap (λ x. (if x && not (after || keeps_break rest) then 32 else c) ∷ folded_after x rest) known

-- what follows the first character has no line break either
no_break_tail : (c : ℕ) (rest : List ℕ) → HasNoBreak (c ∷ rest) → HasNoBreak rest
no_break_tail c rest free = λ i within. free (suc i) (omega arith)

-- the first character of a text without a line break is none
no_break_head : (c : ℕ) (rest : List ℕ) → HasNoBreak (c ∷ rest) → (c == 10) ≡ false
no_break_head c rest free = let differs : c ≢ 10 = free 0 (omega arith) in grind (arith, nat_tests)

-- a text without line breaks stays as it is
pub folded_plain : (after : Bool) (text : List ℕ) → HasNoBreak text → folded_after after text ≡ text
folded_plain after [] free = refl
folded_plain after (c ∷ rest) free =
    folded_character after c rest false (no_break_head c rest free)
    ∙ ap (λ x. c ∷ x) (folded_plain false rest (no_break_tail c rest free))

-- a line and the line break behind it
pub folded_line : (after : Bool) (line more : List ℕ) → HasNoBreak line
    → folded_after after (line ++ 10 ∷ more)
    ≡ line ++ break_between after line more ∷ folded_after true more
folded_line after [] more free = by_its_neighbours after (keeps_break more)
  where
    by_its_neighbours : (after keeps : Bool)
        → (if not (after || keeps) then 32 else 10) ∷ folded_after true more
        ≡ break_or_space ((after && true) || keeps) ∷ folded_after true more
    by_its_neighbours after keeps = grind arith
folded_line after (c ∷ line) more free =
    folded_character after c (line ++ 10 ∷ more) false (no_break_head c line free)
    ∙ ap (λ x. c ∷ x) (folded_line false line more (no_break_tail c line free)
    ∙ ap (λ x. line ++ break_or_space x ∷ folded_after true more)
    (by_its_length (length line) after (keeps_break more)))
  where
    by_its_length : (n : ℕ) (after keeps : Bool)
        → ((false && (n == 0)) || keeps) ≡ ((after && (suc n == 0)) || keeps)
    by_its_length n after keeps = grind (arith, nat_tests)

-- one line more is printed
pub folded_more : (out mid new full : List ℕ) (after : Bool) (rest line more : List ℕ)
    → out ++ folded_after after rest ≡ full → rest ≡ line ++ 10 ∷ more → HasNoBreak line
    → mid ≡ out ++ line → new ≡ mid ++ break_between after line more ∷ []
    → new ++ folded_after true more ≡ full
folded_more out mid new full after rest line more kept is_cut free put put_break =
    let between = break_between after line more in
    ap (λ x. x ++ folded_after true more) (put_break ∙ ap (λ x. x ++ between ∷ []) put)
    ∙ append_assoc (out ++ line) _ _ ∙ append_assoc out line _
    ∙ ap (λ x. out ++ x) (sym (folded_line after line more free))
    ∙ ap (λ x. out ++ folded_after after x) (sym is_cut) ∙ kept

-- the last line is printed
pub folded_end : (out new full : List ℕ) (after : Bool) (rest : List ℕ)
    → out ++ folded_after after rest ≡ full → HasNoBreak rest → new ≡ out ++ rest → new ≡ full
folded_end out new full after rest kept free put =
    put ∙ ap (λ x. out ++ x) (sym (folded_plain after rest free)) ∙ kept

-- a text without line breaks has no empty line
no_empty_line : (text : List ℕ) → HasNoBreak text → (i : ℕ) → LacksTextAt empty_line text i
no_empty_line [] free zero rest is = cc
no_empty_line [] free (suc i) rest is = cc
no_empty_line (c ∷ text) free zero rest is = free 0 (omega arith) (ap (λ all. slice_index all 0) is)
no_empty_line (c ∷ text) free (suc i) rest is =
    no_empty_line text (no_break_tail c text free) i rest is

-- the one piece of a text without line breaks
pub text_plain : (text : List ℕ) (pieces : List Piece) → HasNoBreak text
    → pieces ≡ shown_as style.Text text ∷ [] → pieces ≡ text_pieces text
text_plain text pieces free are =
    are ∙ ap (λ x. shown_as style.Text x ∷ []) (sym (folded_plain false text free))
    ∙ sym (ap (pieces_of_parts text) (uncut text (λ i within. no_empty_line text free i)))

-- the one piece of a text without an empty line, put into an empty list
pub text_whole : (text shown : List ℕ) (none pieces : List Piece)
    → ((i : ℕ) → i ≤ length text → LacksTextAt empty_line text i) → shown ≡ folded text → none ≡ []
    → pieces ≡ none ++ shown_as style.Text shown ∷ [] → pieces ≡ text_pieces text
text_whole text shown none pieces lacks is_folded is_empty put =
    put ∙ ap (λ x. x ++ shown_as style.Text shown ∷ []) is_empty
    ∙ ap (λ x. shown_as style.Text x ∷ []) is_folded
    ∙ sym (ap (pieces_of_parts text) (uncut text lacks))

-- the two pieces of a text with an empty line, put into an empty list
pub text_cut :
    (text before after shown shown_as_detail : List ℕ) (i : ℕ) (none one pieces : List Piece)
    → text ≡ before ++ (empty_line ++ after) → ((k : ℕ) → k < i → LacksTextAt empty_line text k)
    → length before ≡ i → shown ≡ folded before → shown_as_detail ≡ 10 ∷ folded after → none ≡ []
    → one ≡ none ++ shown_as style.Text shown ∷ [] → pieces ≡ one ++ detail shown_as_detail ∷ []
    → pieces ≡ text_pieces text
text_cut text before after shown shown_as_detail i none one pieces
    is_cut lacks ends is_folded is_folded_too is_empty put put_detail =
    put_detail ∙ ap (λ x. x ++ detail shown_as_detail ∷ [])
    (put ∙ ap (λ x. x ++ shown_as style.Text shown ∷ []) is_empty)
    ∙ ap (λ x. shown_as style.Text x ∷ detail shown_as_detail ∷ []) is_folded
    ∙ ap (λ x. shown_as style.Text (folded before) ∷ detail x ∷ []) is_folded_too
    ∙ sym (ap (pieces_of_parts text) (cut_text text before after is_cut i lacks ends))

-- Members of a shape.

-- the members that a list makes are those of the list
shapes_of_members : (shapes : List Shape) → shapes_of (members shapes) ≡ shapes
shapes_of_members [] = refl
shapes_of_members (shape ∷ shapes) = ap (λ rest. shape ∷ rest) (shapes_of_members shapes)

-- the shape of an Or
pub or_shape : (all : Vec Meta Global) → shape_of (meta.Or all)
    ≡ Or (members (map shape_of all.items))
unfolding meta.roll-Meta denote.Hole.Carrier.roll
or_shape all = fold-roll-Meta Part Shape part_layer shape_layer (Meta-F.Or all)

-- an Or adds its members to a choice
pub or_adds : (all : Vec Meta Global) (of : Meta) → of ≡ meta.Or all
    → map shape_of all.items ≡ alternatives (shape_of of)
or_adds all of is =
    sym (ap (λ m. alternatives (shape_of m))
    is ∙ (ap alternatives (or_shape all) ∙ shapes_of_members (map shape_of all.items)))

-- the members from a place on are the one there and those behind it
pub members_from : (all : List Meta) (i : ℕ) (member : Meta) → i < length all
    → member ≡ get_or all i member
    → member_shapes (drop i all) ≡ (shape_of member then member_shapes (drop (i + 1) all))
members_from all i member within here =
    ap member_shapes (drop-cons all i member within ∙ ap (λ x. x ∷ drop (suc i) all) (sym here)
    ∙ ap (λ n. member ∷ drop n all) (sym (add-one i)))
