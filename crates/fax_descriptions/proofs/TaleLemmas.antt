-- What is told, one thing after another.
use Rattle.std.proofs.Common.{◌≡◌, ℕ, List, [], ◌∷◌, ◌++◌, sym, ◌∙◌, ap, ap₂, append-nil, string_bytes, ◌+◌, ◌<◌, zero, suc, length, map, take, get_or, set, arith}
use Rattle.std.proofs.lemmas.List.{map-append, take_more}
use Rattle.std.proofs.lemmas.Grind.{flat_map-append}
use Rattle.fax_descriptions.specs.declared.lane.Lane.{Lane}
use Rattle.fax_descriptions.specs.declared.tale.Entry.{Entry}
use Rattle.fax_descriptions.specs.Tellings.{Description, telling_of}
use Rattle.fax_descriptions.specs.Tales.{last_with, line_text, paragraph_text}

-- what is told in entries up to a place, and in the one there
pub paragraph_more : (moment : ℕ) (entries : List Entry) (i : ℕ) (entry : Entry) (text : List ℕ) → i < length entries → entry ≡ get_or entries i entry
    → text ≡ paragraph_text moment (map telling_of (take i entries))
    → text ++ (line_text moment (telling_of entry) ++ 10 ∷ []) ≡ paragraph_text moment (map telling_of (take (i + 1) entries))
paragraph_more moment entries i entry text h e is =
    let front : List Entry = take i entries in
    let line = λ (telling : Description). line_text moment telling ++ 10 ∷ [] in
    let one : take (i + 1) entries ≡ front ++ entry ∷ [] = take_more entries i entry h ∙ ap (λ (x : Entry). front ++ x ∷ []) (sym e) in
    let all : paragraph_text moment (map telling_of (take (i + 1) entries)) ≡ paragraph_text moment (map telling_of front ++ telling_of entry ∷ []) =
    ap (λ (es : List Entry). paragraph_text moment (map telling_of es)) one ∙ ap (paragraph_text moment) (map-append telling_of front (entry ∷ [])) in
    let cut : paragraph_text moment (map telling_of front ++ telling_of entry ∷ []) ≡ paragraph_text moment (map telling_of front) ++ paragraph_text moment (telling_of entry ∷ []) =
    flat_map-append line (map telling_of front) (telling_of entry ∷ []) in
    let lone : paragraph_text moment (telling_of entry ∷ []) ≡ line (telling_of entry) = append-nil (line (telling_of entry)) in
    ap (λ (t : List ℕ). t ++ line (telling_of entry)) is ∙ ap (λ (l : List ℕ). paragraph_text moment (map telling_of front) ++ l) (sym lone) ∙ sym cut ∙ sym all

-- an entry that goes on, as it is told
same_telling : (new old e : Entry) (more : List ℕ) → old ≡ e → new.lane ≡ old.lane → string_bytes new.words ≡ string_bytes old.words ++ more
    → ◌≡◌ {A = Description} (telling_of new) (record { lane = e.lane; words = string_bytes e.words ++ more })
same_telling new old e more is stays goes_on =
    ap₂ (λ (lane : Lane) (words : List ℕ). let t : Description = record { lane = lane; words = words } in t)
    (stays ∙ ap (λ (x : Entry). x.lane) is) (goes_on ∙ ap (λ (x : Entry). string_bytes x.words ++ more) is)

-- the last entry goes on
pub last_goes_on : (entries : List Entry) (i : ℕ) (old new : Entry) (more : List ℕ) → i + 1 ≡ length entries → old ≡ get_or entries i old
    → new.lane ≡ old.lane → string_bytes new.words ≡ string_bytes old.words ++ more
    → map telling_of (set entries i new) ≡ last_with more (map telling_of entries)
last_goes_on [] i old new more at is stays goes_on = absurd (let none : i + 1 ≡ 0 = at in omega (arith, none))
last_goes_on (e ∷ []) zero old new more at is stays goes_on = ap (λ (t : Description). t ∷ []) (same_telling new old e more is stays goes_on)
last_goes_on (e ∷ []) (suc i) old new more at is stays goes_on = absurd (omega (arith, at))
last_goes_on (e ∷ f ∷ entries) zero old new more at is stays goes_on = absurd (omega (arith, at))
last_goes_on (e ∷ f ∷ entries) (suc i) old new more at is stays goes_on =
    ap (λ (told : List Description). telling_of e ∷ told) (last_goes_on (f ∷ entries) i old new more (omega (arith, at)) is stays goes_on)
