-- Texts are only text: whatever they are, a browser shows them, and takes nothing in them for markup.
use Rattle.std.specs.Prelude.{◌≡◌, ◌≢◌, ℕ, List, [], ◌∷◌, ◌++◌, All, codes}
use Rattle.fax_http.specs.Texts.{text_shown}

-- the reference of an octet (HTML, 13.5)
pub data IsReference : List ℕ → ℕ → Type 0 where
  ampersand : IsReference (codes "&amp;") 38
  less : IsReference (codes "&lt;") 60
  greater : IsReference (codes "&gt;") 62
  quote : IsReference (codes "&quot;") 34
  apostrophe : IsReference (codes "&#39;") 39

-- What a browser reads in the content of an element, while no tag begins (HTML, 13.2.5.1 and 13.2.5.72): each octet but `<` and `&` is
-- itself, and a reference is the octet that it names.
pub data IsReadAs : List ℕ → List ℕ → Type 0 where
  nothing : IsReadAs [] []
  plain : (octet : ℕ) (octets text : List ℕ)
      → octet ≢ 38 → octet ≢ 60 → IsReadAs octets text → IsReadAs (octet ∷ octets) (octet ∷ text)
  named : (octet : ℕ) (name octets text : List ℕ)
      → IsReference name octet → IsReadAs octets text → IsReadAs (name ++ octets) (octet ∷ text)

-- no octet that begins or ends a tag, or a value in one
pub record IsNoMarkup (octet : ℕ) : Type 0 where
  pub less : octet ≢ 60
  pub greater : octet ≢ 62
  pub quote : octet ≢ 34
  pub apostrophe : octet ≢ 39

-- A text is read as it is, and no octet of markup stands in it.
pub record IsOnlyText (text : List ℕ) : Type 0 where
  pub read : IsReadAs (text_shown text) text
  pub no_markup : All IsNoMarkup (text_shown text)

abbrev pub TextIsOnlyText : Type 0
TextIsOnlyText = (text : List ℕ) → IsOnlyText text
