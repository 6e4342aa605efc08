-- The text in which a page is written (ITU-T T.4, 4.1.2 to 4.1.4 and 4.2.2 to 4.2.4).
use Rattle.std.specs.Prelude.{◌≡◌, ℕ, zero, suc, ◌+◌, ◌-◌, ◌%◌, ◌==◌, Bool, true, false, if◌then◌else◌, List, [], ◌∷◌, ◌++◌, Option, Some, None, length, replicate}
use Rattle.fax_runcodes.specs.declared.format.Coding.{Coding}
use Rattle.fax_runcodes.specs.declared.format.Coding.TheVariants.{Mh, Mr}
use Rattle.fax_runcodes.specs.Rows.{Elements}
use Rattle.fax_mhcode.specs.Lines as mh
use Rattle.fax_mrcode.specs.Written as mr
use Rattle.fax_pagestore.specs.PageTexts.{end_of_line}

-- T.4's parameter K: of so many lines in a row the first is one-dimensional
abbrev pub parameter_k : Bool → ℕ
parameter_k fine = if fine then 4 else 2

-- whether a row is written in one dimension, and so the tag before its line
abbrev pub is_one_dimensional : Coding → Bool → ℕ → Bool
is_one_dimensional Mh fine index = true
is_one_dimensional Mr fine index = index % parameter_k fine == 0

-- the tag bit after an EOL
abbrev pub tag_bits : Coding → Bool → List Bool
tag_bits Mh tag = []
tag_bits Mr tag = tag ∷ []

-- the tag after a row, where these rows follow: that of the next row, and 1 after the last
abbrev pub next_tag : Coding → Bool → ℕ → List Elements → Bool
next_tag coding fine index [] = true
next_tag coding fine index (row ∷ rows) = is_one_dimensional coding fine (index + 1)

-- so many EOL, each with tag 1
unfoldable pub ends_of_line : Coding → ℕ → List Bool
ends_of_line coding zero = []
ends_of_line coding (suc n) = end_of_line ++ (tag_bits coding true ++ ends_of_line coding n)

-- the zeros between a line and its EOL: the fewest for which the three have the least number of bits
unfoldable pub fill : ℕ → List Bool → List Bool
fill least line = replicate (least - (length line + length end_of_line)) false

-- the line of a row, by its tag and the row before
abbrev pub WritesRow : Bool → Option Elements → Elements → List Bool → Type 0
WritesRow true before row line = mh.WritesLine row line
WritesRow false (Some reference) row line = mr.WritesLine reference row line
WritesRow false None row line = ⊥

-- the lines of rows from this index on, each with its fill, an EOL and the tag after it
abbrev pub WritesRows : Coding → Bool → ℕ → ℕ → Option Elements → List Elements → List Bool → Type 0
WritesRows coding fine least index before [] text = text ≡ []
WritesRows coding fine least index before (row ∷ rows) text =
    (line rest : List Bool) × WritesRow (is_one_dimensional coding fine index) before row line
    × (text ≡ line ++ (fill least line
    ++ (end_of_line ++ (tag_bits coding (next_tag coding fine index rows) ++ rest))))
    × WritesRows coding fine least (index + 1) (Some row) rows rest

-- the bits of a page: EOL, the lines, and five more EOL
abbrev pub WritesPage : Coding → Bool → ℕ → List Elements → List Bool → Type 0
WritesPage coding fine least rows text =
    (lines : List Bool) × WritesRows coding fine least 0 None rows lines
    × (text ≡ end_of_line ++ (tag_bits coding true ++ (lines ++ ends_of_line coding 5)))
