-- The lines of a document, and what is wrong with one of them.
use Rattle.std.proofs.Common.{◌≡◌, ℕ, ℤ, pos, ◌+◌, ◌<◌, ◌≤◌, List, [], ◌∷◌, ◌++◌, length, codes, get_or, take, Option, None, Some, IsSomeAnd, inr, refl, sym, ◌∙◌, ap, subst, arith}
use Rattle.std.proofs.lemmas.List.{take_more}
use Rattle.toml.specs.Data.{Data, array, integer, table, Items, Members, get_item, get_member, as_integer, as_table}
use Rattle.toml.specs.View.{view, items_view}
use Rattle.toml.specs.declared.value.Value.{Value}
use Rattle.fax_config.specs.declared.config.LineConfig.{LineConfig}
use Rattle.fax_config.specs.declared.fault.Misfit.{Misfit}
use Rattle.fax_config.specs.declared.fault.Misfit.TheVariants as misfits
use Rattle.fax_config.specs.Members.{AreTold}
use Rattle.fax_config.specs.Faults.{HasMisfit, HasRedialMisfit, IsMisfitOf, IsNoListOfNumbers, IsNoListOfTables, count_items}

-- one more item, and what it tells
told_push : {X : Type 0} (tells : Data → X → Type 0) (vs : List Value) (ls : List X) (v : Value) (l : X) → AreTold tells (items_view vs) ls → tells (view v) l → AreTold tells (items_view (vs ++ v ∷ [])) (ls ++ l ∷ [])
told_push tells [] [] v l h k = (k, tt)
told_push tells [] (x ∷ ls) v l h k = absurd h
told_push tells (w ∷ vs) [] v l h k = absurd h
told_push tells (w ∷ vs) (x ∷ ls) v l h k = (h.0, told_push tells vs ls v l h.1 k)

pub told_more : {X : Type 0} (tells : Data → X → Type 0) (vs : List Value) (i : ℕ) (v : Value) (ls : List X) (l : X) → i < length vs → v ≡ get_or vs i v
    → AreTold tells (items_view (take i vs)) ls → tells (view v) l → AreTold tells (items_view (take (i + 1) vs)) (ls ++ l ∷ [])
told_more tells vs i v ls l within is h k =
    let more : take (i + 1) vs ≡ take i vs ++ v ∷ [] = take_more vs i v within ∙ ap (λ x. take i vs ++ x ∷ []) (sym is) in
    subst (λ some. AreTold tells (items_view some) (ls ++ l ∷ [])) (sym more) (told_push tells (take i vs) ls v l h k)

pub count_view : (vs : List Value) → count_items (items_view vs) ≡ length vs
count_view [] = refl
count_view (v ∷ vs) = let more = count_view vs in omega (arith, more)

-- what is wrong with a line is wrong with the document
pub misfit_of_line : (members : Members) (items : Items) (i : ℕ) (line : Members) (misfit : Misfit) → get_item i items ≡ Some (table line) → HasMisfit i line misfit
    → get_member (codes "lines") members ≡ Some (array items) → IsMisfitOf members misfit
misfit_of_line document items i line (misfits.Top flaw) here h at = absurd h
misfit_of_line document items i line (misfits.Sip misfit) here h at = absurd h
misfit_of_line document items i line (misfits.Line name flaw) here h at = (items, at, (i, line, here, h))
misfit_of_line document items i line (misfits.Leg name leg flaw) here h at = (items, at, (i, line, here, h))
misfit_of_line document items i line (misfits.Retry flaw) here h at = absurd h
misfit_of_line document items i line (misfits.Redial name flaw) here h at = absurd h
misfit_of_line document items i line (misfits.RedialLeg name flaw) here h at = absurd h
misfit_of_line document items i line (misfits.DoubledName name) here h at = absurd h
misfit_of_line document items i line (misfits.DoubledAddress name leg) here h at = absurd h
misfit_of_line document items i line misfits.TooManyLines here h at = absurd h
misfit_of_line document items i line misfits.TooManyRedials here h at = absurd h
misfit_of_line document items i line misfits.NoMemory here h at = tt

-- the same of a redial line
pub misfit_of_redial : (members : Members) (items : Items) (i : ℕ) (line : Members) (misfit : Misfit) → get_item i items ≡ Some (table line) → HasRedialMisfit i line misfit
    → get_member (codes "redial") members ≡ Some (array items) → IsMisfitOf members misfit
misfit_of_redial document items i line (misfits.Top flaw) here h at = absurd h
misfit_of_redial document items i line (misfits.Sip misfit) here h at = absurd h
misfit_of_redial document items i line (misfits.Line name flaw) here h at = absurd h
misfit_of_redial document items i line (misfits.Leg name leg flaw) here h at = absurd h
misfit_of_redial document items i line (misfits.Retry flaw) here h at = absurd h
misfit_of_redial document items i line (misfits.Redial name flaw) here h at = (items, at, (i, line, here, h))
misfit_of_redial document items i line (misfits.RedialLeg name flaw) here h at = (items, at, (i, line, here, h))
misfit_of_redial document items i line (misfits.DoubledName name) here h at = absurd h
misfit_of_redial document items i line (misfits.DoubledAddress name leg) here h at = absurd h
misfit_of_redial document items i line misfits.TooManyLines here h at = absurd h
misfit_of_redial document items i line misfits.TooManyRedials here h at = absurd h
misfit_of_redial document items i line misfits.NoMemory here h at = tt

-- an item that is no number
pub no_number_at : (found : Option Data) (items : Items) (i : ℕ) (value : Data) → found ≡ Some (array items) → get_item i items ≡ Some value → as_integer value ≡ None
    → IsSomeAnd found IsNoListOfNumbers
no_number_at found items i value at here none =
    subst (λ o. IsSomeAnd o IsNoListOfNumbers) (sym at) (inr (items, i, refl, subst (λ o. IsSomeAnd o (λ one. as_integer one ≡ None)) (sym here) none))

-- an item that is out of the range of waits
pub no_wait_at : (members : Members) (items : Items) (i : ℕ) (z : ℤ) → get_member (codes "after_seconds") members ≡ Some (array items) → get_item i items ≡ Some (integer z)
    → ((n : ℕ) → z ≡ pos n → 1 ≤ n → n ≤ 604800 → ⊥)
    → (all : Items) × (k : ℕ) × (x : ℤ) × (get_member (codes "after_seconds") members ≡ Some (array all)) × (get_item k all ≡ Some (integer x)) × ((n : ℕ) → x ≡ pos n → 1 ≤ n → n ≤ 604800 → ⊥)
no_wait_at members items i z at here without = (items, i, z, at, here, without)

-- an item that is no table
pub no_table_at : (found : Option Data) (items : Items) (i : ℕ) (value : Data) → found ≡ Some (array items) → get_item i items ≡ Some value → as_table value ≡ None
    → IsSomeAnd found IsNoListOfTables
no_table_at found items i value at here none =
    subst (λ o. IsSomeAnd o IsNoListOfTables) (sym at) (inr (items, i, refl, subst (λ o. IsSomeAnd o (λ one. as_table one ≡ None)) (sym here) none))

-- a value that is no list
pub no_list_at : (found : Option Data) (value : Data) → found ≡ Some value → IsNoListOfTables value → IsSomeAnd found IsNoListOfTables
no_list_at found value at h = subst (λ o. IsSomeAnd o IsNoListOfTables) (sym at) h

-- a fact of the value that was found
pub found_with : (P : Data → Type 0) (found : Option Data) (value : Data) → found ≡ Some value → P value → IsSomeAnd found P
found_with P found value at h = subst (λ o. IsSomeAnd o P) (sym at) h
