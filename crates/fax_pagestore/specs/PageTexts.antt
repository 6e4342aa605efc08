-- What octets mean as a page (ITU-T T.4, 4.1.2 to 4.1.4 and 4.2.2 to 4.2.4).
use Rattle.std.specs.Prelude.{◌≡◌, ℕ, zero, suc, ◌<◌, ◌≤◌, Bool, true, false, List, [], ◌∷◌, ◌++◌, Option, Some, None, length, replicate, take}
use Rattle.fax_bits.specs.Bits.{bits_of}
use Rattle.fax_runcodes.specs.declared.format.Coding.{Coding}
use Rattle.fax_runcodes.specs.declared.format.Coding.TheVariants.{Mh, Mr}
use Rattle.fax_runcodes.specs.declared.format.Format.{Format}
use Rattle.fax_runcodes.specs.Rows.{Elements}
use Rattle.fax_runcodes.specs.Widths.{elements_of}
use Rattle.fax_mhcode.specs.Lines as mh
use Rattle.fax_mrcode.specs.Lines as mr
use Rattle.fax_pagestore.specs.PageRows.{AreRows}
use Rattle.fax_pagestore.specs.Pages.{PageValue}

-- EOL without fill: 11 zeros and a 1
unfoldable pub end_of_line : List Bool
end_of_line = replicate 11 false ++ true ∷ []

-- The tag bit after an EOL. One-dimensional coding has none, and each of its lines counts as tagged 1.
abbrev pub IsTag : Coding → Bool → List Bool → Type 0
IsTag Mh tag text = (tag ≡ true) × (text ≡ [])
IsTag Mr tag text = text ≡ tag ∷ []

-- a separator: fill, an EOL and its tag, that is at least 11 zeros, a 1 and the tag
abbrev pub IsSeparator : Coding → Bool → List Bool → Type 0
IsSeparator coding tag text = (zeros : ℕ) × (tag_text : List Bool)
    × (11 ≤ zeros) × IsTag coding tag tag_text × (text ≡ replicate zeros false ++ true ∷ tag_text)

-- So many separators after one of this tag, of which the last has the tag `last`: each that is followed
-- by another has tag 1.
abbrev pub InARow : Coding → Bool → ℕ → List Bool → Bool → Type 0
InARow coding tag zero text last = (text ≡ []) × (last ≡ tag)
InARow coding tag (suc n) text last = (tag ≡ true) × (first rest : List Bool) × (next : Bool)
    × (text ≡ first ++ rest) × IsSeparator coding next first × InARow coding next n rest last

abbrev pub EndsWithEol : List Bool → Type 0
EndsWithEol text = (before : List Bool) × (text ≡ before ++ end_of_line)

-- the shortest front that ends with an EOL, and the tag of that EOL
pub record IsFront (coding : Coding) (tag : Bool) (text : List Bool) : Type 0 where
  pub front : List Bool
  pub tag_text : List Bool
  pub text_is : text ≡ front ++ tag_text
  pub ends : EndsWithEol front
  pub shortest : (k : ℕ) → k < length front → EndsWithEol (take k front) → ⊥
  pub is_tag : IsTag coding tag tag_text

-- Bits spell a row after a separator of this tag: tag 1 chooses a one-dimensional line, and tag 0 a
-- two-dimensional one against the row before.
abbrev pub SpellsRow : ℕ → Bool → Option Elements → List Bool → Elements → Type 0
SpellsRow width true before text row = mh.SpellsLine width text row
SpellsRow width false (Some reference) text row = mr.SpellsLine reference text row
SpellsRow width false None text row = ⊥

-- After a separator of this tag, and this row before, the bits are the lines of rows, each with a
-- separator after it, of which the last has the tag `last`.
abbrev pub SpellsRows : Coding
    → ℕ → Bool → Option Elements → List Elements → List Bool → Bool → Type 0
SpellsRows coding width tag before [] text last = (text ≡ []) × (last ≡ tag)
SpellsRows coding width tag before (row ∷ rows) text last =
    (line separator rest : List Bool) × (next : Bool) × (text ≡ line ++ (separator ++ rest))
    × SpellsRow width tag before line row × IsSeparator coding next separator
    × SpellsRows coding width next (Some row) rows rest last

-- What is read of octets up to a place after a separator of this tag: any bits up to the first EOL, the
-- lines of these rows, each with a separator after it, and so many further separators.
pub record ReadSoFar (coding : Coding) (width : ℕ) (octets : List ℕ)
    (rows : List Elements) (further : ℕ) (tag : Bool) (rest : List Bool) : Type 0 where
  pub front : List Bool
  pub lines : List Bool
  pub separators : List Bool
  pub front_tag : Bool
  pub row_tag : Bool
  pub is_front : IsFront coding front_tag front
  pub spelt : SpellsRows coding width front_tag None rows lines row_tag
  pub in_a_row : InARow coding row_tag further separators tag
  pub bits_are : bits_of octets ≡ front ++ (lines ++ (separators ++ rest))

-- Octets mean these rows of a width: any bits up to the first EOL, the lines, each with a separator
-- after it, five more separators, and anything. The last six separators have tag 1.
pub record MeansRows (width : ℕ) (coding : Coding) (octets : List ℕ) (rows : List Elements) :
    Type 0 where
  pub are_rows : AreRows width rows
  pub more : List Bool
  pub read : ReadSoFar coding width octets rows 5 true more

-- octets mean a page under its format
abbrev pub MeansPage : Format → Coding → List ℕ → PageValue → Type 0
MeansPage format coding octets page =
    (page.format ≡ format) × MeansRows (elements_of format.width) coding octets page.rows
