-- The keys of a table.
use Rattle.std.proofs.Common.{◌≡◌, ℕ, zero, suc, Bool, ◌↔◌, IsTrue, List, [], ◌∷◌, map, String, Global, Some, is_some, All, Contains, nat_eq, string_bytes, refl, sym, ◌∙◌, ap, subst, arith}
use Rattle.std.specs.Cmp.Lexicographic.{pointwise}
use Rattle.std.specs.List.{list_any, slice_get}
use Rattle.std.specs.Map as maps
use Rattle.std.proofs.lemmas.Bool.{true≢false}
use Rattle.std.proofs.lemmas.Bool.Decides.{Decides-eqb, Decides-by_or}
use Rattle.std.proofs.lemmas.List.Elements.{All-map, Decides-contains}
use Rattle.std.proofs.lemmas.Slice.Eq.{slice_eq-Decides}
use Rattle.toml.specs.View.{members_view}
use Rattle.toml.specs.declared.value.Value.{Value}
use Rattle.fax_config.specs.Members.{keys_of}

abbrev Entry : Type 0
Entry = String Global × Value

-- a test of a key against some texts says whether it is one of them
pub known_by : (known : List (List ℕ)) (key : List ℕ) (r : Bool) → r ≡ list_any (λ one. pointwise nat_eq one key) known → IsTrue r ↔ Contains known key
known_by known key r is =
    let each = λ (one : List ℕ). slice_eq-Decides Decides-eqb one key (pointwise nat_eq one key) refl in
    let found = Decides-contains known key (list_any (λ one. pointwise nat_eq one key) known)
    (Decides-by_or (λ one. pointwise nat_eq one key) (λ one. one ≡ key) (list_any (λ one. pointwise nat_eq one key)) each refl (λ _ _. refl) known) in
    (λ yes. found.0 (sym is ∙ yes), λ here. is ∙ found.1 here)

-- the keys of a table are those of its map
pub names_of_keys : (es : List Entry) → keys_of (members_view es) ≡ map (λ k. string_bytes k) (maps.keys_of es)
names_of_keys [] = refl
names_of_keys (e ∷ es) = ap (λ ks. string_bytes e.0 ∷ ks) (names_of_keys es)

-- a key of the map at a place is one of the table's
pub contains_key : (es : List Entry) (i : ℕ) (k : String Global) → slice_get (maps.keys_of es) i ≡ Some k → Contains (keys_of (members_view es)) (string_bytes k)
contains_key [] i k at = absurd (true≢false (sym (ap is_some at)))
contains_key (e ∷ es) zero k at = let same : e.0 ≡ k = cc in (0, omega arith, ap (λ s. string_bytes s) same)
contains_key (e ∷ es) (suc i) k at = let later = contains_key es i k at in (suc later.0, omega arith, later.2)

-- what holds of the keys of the map holds of the table's
pub all_keys : (P : List ℕ → Type 0) (es : List Entry) → All (λ k. P (string_bytes k)) (maps.keys_of es) → All P (keys_of (members_view es))
all_keys P es h = subst (All P) (sym (names_of_keys es)) (All-map P (λ k. string_bytes k) (maps.keys_of es) h)
