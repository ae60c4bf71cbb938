-- Joined documents, the lines that a walk gathers, and the paragraphs of a help page.
use Rattle.std.proofs.Common.{◌≡◌, ℕ, List, [], ◌∷◌, ap, ◌∙◌, refl, zero, suc, ◌+◌, ◌<◌, ◌++◌, map}
use Rattle.std.proofs.Common.{sym, drop, length, get_or, arith, drop-cons, add-one, append_assoc}
use Rattle.bpaf_pages.specs.Help.{glued, joined_behind, Line, Below, lines, below_last, nothing}
use Rattle.bpaf_pages.specs.Help.{joined, PageTexts, section, sections, opening, lists, widest}
use Rattle.std.proofs.lemmas.List.{length-map, map-append, get_or-map}
use Rattle.std.proofs.{lemmas.Grind.fold-append, Common.codes}
use Rattle.bpaf_doc.specs.{Print.Print, Print.Prints, Print.prints, declared.doc.Piece.Piece}
use Rattle.bpaf_doc.specs.declared.doc.Doc.{Doc}
use Rattle.bpaf_pages.specs.Help.{paragraph, paragraphs, page, prints_of}
use Rattle.bpaf_pages.specs.{declared.lines.Line.Line as LineHere, InsideLine.line_of}
use denote.Bor.{Bor}
use Rattle.bpaf_pages.specs.declared.lines.Told.TheVariants as told

-- what a document prints is the text that it prints
pub shows : (text : Print) (doc : List Piece) → Prints text doc → prints doc ≡ text
shows text doc same = λ i full. same full i

-- a text was put behind a document
pub glued_behind : (between : List ℕ) (first text : Print) (old more new : List Piece)
    → prints old ≡ first → Prints text more → Prints (glued between (prints old) (prints more)) new
    → prints new ≡ glued between first text
glued_behind between first text old more new begins told put =
    shows _ new put ∙ ap (glued between (prints old)) (shows text more told)
    ∙ ap (λ x. glued between x text) begins

-- three texts were put behind a document
pub three_behind :
    (between : List ℕ) (one two three : Print) (old first second third more most new : List Piece)
    → Prints one first → Prints (glued between (prints old) (prints first)) more → Prints two second
    → Prints (glued between (prints more) (prints second)) most → Prints three third
    → Prints (glued between (prints most) (prints third)) new
    → Prints (joined_behind between (prints old) (one ∷ two ∷ three ∷ [])) new
three_behind between one two three old first second third more most new
    told put told_too put_too told_last put_last =
    let begins = glued_behind between (prints old) one old first more refl told put in
    let goes_on = glued_behind between _ two more second most begins told_too put_too in
    let ends = glued_behind between _ three most third new goes_on told_last put_last in
    λ full. ap (λ text. text full) ends

-- a text below the last line
below_whole : (text : List Piece) (first : Line) (rest : List Line) (line : Line)
    → line ≡ get_or (first ∷ rest) (length rest) line
    → below_last text (first ∷ rest) ≡ record { place = line.place; told = Below text } ∷ []
below_whole text first [] line here =
    ap (λ (x : Line). record { place = x.place; told = Below text } ∷ []) (sym here)
below_whole text first (next ∷ rest) line here = below_whole text next rest line here

-- a text below the last of the lines from one on
below_found : (text : List Piece) (all : List Line) (from last : ℕ) (line : Line)
    → from < length all → last + 1 ≡ length all → line ≡ get_or all last line
    → below_last text (drop from all) ≡ record { place = line.place; told = Below text } ∷ []
below_found text [] from last line within ends here = absurd (omega arith)
below_found text (first ∷ rest) zero last line within ends here =
    let is_last : last ≡ length rest = omega arith in
    below_whole text first rest line (here ∙ ap (λ x. get_or (first ∷ rest) x line) is_last)
below_found text (first ∷ rest) (suc from) zero line within ends here = absurd (omega arith)
below_found text (first ∷ rest) (suc from) (suc last) line within ends here =
    below_found text rest from last line (omega arith) (omega arith) here

-- a text was put below the last of the lines from one on
pub below_put : (all new : List LineHere) (text : Bor Doc) (from last : ℕ) (line : LineHere)
    → from < length all → last + 1 ≡ length all → line ≡ get_or all last line
    → new ≡ all ++ record { place = line.place; told = told.Below text } ∷ []
    → map line_of new ≡ map line_of all ++ below_last text.now (drop from (map line_of all))
below_put all new text from last line within ends here put =
    ap (map line_of) put ∙ map-append line_of all _ ∙ ap (λ x. map line_of all ++ x)
    (sym (below_found text.now (map line_of all) from last (line_of line)
    (rw length-map within) (rw length-map ends)
    (ap line_of here ∙ sym (get_or-map line_of all last line (line_of line) (omega arith)))))

-- The paragraphs of a help page.

-- one section more
pub section_step : (width : ℕ) (all : List Line) (titles items : List (List Piece)) (i : ℕ)
    (title before more new : List Piece) (whole : Print) → items ≡ titles → i < length items
    → title ≡ get_or items i title → Prints (section width all i title) more
    → Prints (glued (codes "\n") (prints before) (prints more)) new
    → joined_behind (codes "\n") (prints before) (sections width all i (drop i titles)) ≡ whole
    → joined_behind (codes "\n") (prints new) (sections width all (i + 1) (drop (i + 1) titles))
    ≡ whole
section_step width all titles items i title before more new whole same within here told put kept =
    let opened : drop i items ≡ title ∷ drop (i + 1) items =
    drop-cons items i title within ∙ (ap (λ x. x ∷ drop (suc i) items) (sym here)
    ∙ ap (λ n. title ∷ drop n items) (sym (add-one i))) in
    let stands = glued_behind (codes "\n") (prints before) _ before more new refl told put in
    rw (← same, stands) (rw (← same, opened) at kept)

-- some texts were put behind others
group_behind : (between : List ℕ) (before texts : List Print) (old new : List Piece)
    → prints old ≡ joined between before → Prints (joined_behind between (prints old) texts) new
    → prints new ≡ joined between (before ++ texts)
group_behind between before texts old new begins put =
    shows _ new put ∙ ap (λ x. joined_behind between x texts) begins
    ∙ sym (fold-append (glued between) nothing before texts)

-- groups of texts were put behind each other
joined_groups : (between : List ℕ) (first second third : List Print) (last : Print)
    (empty one two three more whole : List Piece) → empty ≡ []
    → Prints (joined_behind between (prints empty) first) one
    → Prints (joined_behind between (prints one) second) two
    → Prints (joined_behind between (prints two) third) three → Prints last more
    → Prints (glued between (prints three) (prints more)) whole
    → Prints (joined between (first ++ (second ++ (third ++ last ∷ [])))) whole
joined_groups between first second third last empty one two three more whole
    is_empty begins goes_on ends told put =
    let after_one = group_behind between [] first empty one (ap prints is_empty) begins in
    let after_two = group_behind between first second one two after_one goes_on in
    let after_three = group_behind between (first ++ second) third two three after_two ends in
    let stands = glued_behind between (prints three) last three more whole refl told put in
    let after_all = group_behind between ((first ++ second) ++ third) (last ∷ []) three whole
    after_three (λ full. ap (λ x. x full) stands) in
    let texts = append_assoc (first ++ second) third (last ∷ [])
    ∙ append_assoc first second (third ++ last ∷ []) in
    λ full. ap (λ x. x full) (after_all ∙ ap (joined between) texts)

-- all paragraphs of a page were put behind each other
pub page_put : (path : List (List ℕ)) (given : PageTexts) (usage : Print) (all lines : List Line)
    (names titles : List (List Piece)) (width : ℕ) (empty one two three more whole : List Piece)
    → all ≡ lines → names ≡ titles → width ≡ widest all → empty ≡ []
    → Prints (joined_behind (codes "\n") (prints empty) (opening path given usage)) one
    → Prints (joined_behind (codes "\n") (prints one) (sections width all 0 names)) two
    → Prints (joined_behind (codes "\n") (prints two) (lists width all)) three
    → Prints (paragraph (prints_of given.footer)) more
    → Prints (glued (codes "\n") (prints three) (prints more)) whole
    → Prints (page (paragraphs path given usage lines titles)) whole
page_put path given usage all lines names titles width empty one two three more whole
    same_lines same_titles is_width is_empty begins goes_on ends told put =
    rw (← same_lines, ← same_titles, ← is_width)
    (joined_groups (codes "\n") (opening path given usage) (sections width all 0 names)
    (lists width all) (paragraph (prints_of given.footer)) empty one two three more whole is_empty
    begins goes_on ends told put)
