-- A list of ranges, part by part.
use Rattle.std.proofs.Common.{ℕ, suc, true, false, List, [], ◌∷◌, ◌++◌, length, ◌==◌, ◌&&◌}
use Rattle.std.proofs.Common.{◌≡◌, ◌≢◌, ◌<◌, if◌then◌else◌, ap, refl, ◌∙◌, get_or, arith}
use Rattle.std.proofs.lemmas.Bool.Decides.{nat_tests}
use Rattle.std.specs.List.{list_all}
use Rattle.example_pages.specs.Ranges.{are_ranges, ends, in_front, is_range, parts}

-- a text without this character
abbrev pub Lacks : ℕ → List ℕ → Type 0
Lacks mark text = (i : ℕ) → i < length text → get_or text i 0 ≢ mark

-- its first character isn't this one
first_differs : (mark c : ℕ) (rest : List ℕ) → Lacks mark (c ∷ rest) → (c == mark) ≡ false
first_differs mark c rest lacks =
    let differs : c ≢ mark = lacks 0 (omega arith) in grind (arith, nat_tests)

-- the characters behind the first aren't this one
rest_lacks : (mark c : ℕ) (rest : List ℕ) → Lacks mark (c ∷ rest) → Lacks mark rest
rest_lacks mark c rest lacks = λ i within. lacks (suc i) (omega arith)

-- a text is cut at its first dash
pub ends_around : (from to : List ℕ) → Lacks 45 from → ends (from ++ 45 ∷ to) ≡ (from, to)
ends_around [] to lacks = refl
ends_around (c ∷ from) to lacks =
    let rest = ends (from ++ 45 ∷ to) in
    ap (λ x. if x then ([], from ++ 45 ∷ to) else (c ∷ rest.0, rest.1))
    (first_differs 45 c from lacks)
    ∙ ap (λ (p : List ℕ × List ℕ). (c ∷ p.0, p.1))
    (ends_around from to (rest_lacks 45 c from lacks))

-- one without a dash isn't
pub ends_without : (text : List ℕ) → Lacks 45 text → ends text ≡ (text, [])
ends_without [] lacks = refl
ends_without (c ∷ text) lacks =
    ap (λ x. if x then ([], text) else (c ∷ (ends text).0, (ends text).1))
    (first_differs 45 c text lacks)
    ∙ ap (λ (p : List ℕ × List ℕ). (c ∷ p.0, p.1)) (ends_without text (rest_lacks 45 c text lacks))

-- the first part of a text, and the others
pub parts_around : (part more : List ℕ) → Lacks 44 part → parts (part ++ 44 ∷ more)
    ≡ part ∷ parts more
parts_around [] more lacks = refl
parts_around (c ∷ part) more lacks =
    ap (λ x. if x then [] ∷ parts (part ++ 44 ∷ more) else in_front c (parts (part ++ 44 ∷ more)))
    (first_differs 44 c part lacks)
    ∙ ap (in_front c) (parts_around part more (rest_lacks 44 c part lacks))

-- the last part
pub parts_without : (text : List ℕ) → Lacks 44 text → parts text ≡ text ∷ []
parts_without [] lacks = refl
parts_without (c ∷ text) lacks =
    ap (λ x. if x then [] ∷ parts text else in_front c (parts text)) (first_differs 44 c text lacks)
    ∙ ap (in_front c) (parts_without text (rest_lacks 44 c text lacks))

-- ranges are a first one and others
pub ranges_around : (text part more : List ℕ) → text ≡ part ++ 44 ∷ more → Lacks 44 part
    → are_ranges text ≡ (is_range part && are_ranges more)
ranges_around text part more is lacks =
    ap are_ranges is ∙ ap (list_all is_range) (parts_around part more lacks)

-- a last one is by itself
pub ranges_without : (text : List ℕ) → Lacks 44 text → are_ranges text ≡ (is_range text && true)
ranges_without text lacks = ap (list_all is_range) (parts_without text lacks)
