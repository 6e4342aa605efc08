-- Clients that are waited for.
use Rattle.std.proofs.Common.{◌≡◌, ℕ, List, [], ◌∷◌, ◌++◌, ◌⊎◌, take, drop, length, map, refl, sym, ◌∙◌, ap, subst, inl, inr, append-nil, arith}
use Rattle.std.proofs.lemmas.List.{drop_all, take_all}
use Rattle.std.specs.List.{AllZip}
use Rattle.fax_clients.specs.Clients.{AreLeft, AreServed, AreWaitedFor, ClientInput, ClientOutput, ClientValue, ComesOn, IsAsked, IsCounted, IsServed, IsWaitedFor, IsWritten, counted, silent}

-- one after another
zip_then :
    {A : Type 0} (R S T : A → A → Type 0) → ((x y z : A) → R x y → S y z → T x z) → (xs ys zs : List A) → AllZip R xs ys → AllZip S ys zs → AllZip T xs zs
zip_then R S T join [] [] [] a b = tt
zip_then R S T join [] [] (z ∷ zs) a b = absurd b
zip_then R S T join [] (y ∷ ys) zs a b = absurd a
zip_then R S T join (x ∷ xs) [] zs a b = absurd a
zip_then R S T join (x ∷ xs) (y ∷ ys) [] a b = absurd b
zip_then R S T join (x ∷ xs) (y ∷ ys) (z ∷ zs) (p, ps) (q, qs) = (join x y z p q, zip_then R S T join xs ys zs ps qs)

zip_map : {A : Type 0} (f : A → A) (xs : List A) → AllZip (λ x y. y ≡ f x) xs (map f xs)
zip_map f [] = tt
zip_map f (x ∷ xs) = (refl, zip_map f xs)

pub counted_all : (xs ys : List ClientValue) → AllZip IsCounted xs ys → ys ≡ map counted xs
counted_all [] [] a = refl
counted_all [] (y ∷ ys) a = absurd a
counted_all (x ∷ xs) [] a = absurd a
counted_all (x ∷ xs) (y ∷ ys) (p, ps) = ap (λ c. c ∷ ys) p ∙ ap (λ l. counted x ∷ l) (counted_all xs ys ps)

-- nothing came, and nothing was written
pub comes_none : (said : ClientInput) → ComesOn said said
comes_none said = record { begun = refl; waits = λ h. refl; ended = λ h. refl }

pub written_none : (told : ClientOutput) → IsWritten told told
written_none told = record { count = 0; due = refl }

waited : (old asked served : ClientValue) → IsAsked old asked → IsServed asked served → IsWaitedFor old (counted served)
waited old asked served a s = record {
  said = subst (λ (x : ClientInput). ComesOn x served.said) a.said s.said;
  watches = s.watches ∙ a.watches;
  asked = asked.told;
  events = a.told;
  count = s.told.count;
  told = ap (λ (t : ClientOutput). record { due = t.due; events = t.events; lost = 0 }) s.told.due;
}

waited_all : (old asked served : List ClientValue) → AllZip IsAsked old asked → AllZip IsServed asked served → AllZip IsWaitedFor old (map counted served)
waited_all old asked served a s =
    zip_then (λ x z. (y : ClientValue) × IsAsked x y × IsServed y z) IsCounted IsWaitedFor
    (λ x z c both is. subst (λ (v : ClientValue). IsWaitedFor x v) (sym is) (waited x both.0 z both.1 both.2)) old served (map counted served)
    (zip_then IsAsked IsServed (λ x z. (y : ClientValue) × IsAsked x y × IsServed y z) (λ x y z p q. (y, p, q)) old asked served a s)
    (zip_map counted served)

pub left_none : (old served left : List ClientValue) → AreServed old served → AreLeft served left → AreWaitedFor old left
left_none old served left are stay = record { each = map counted served; waited = waited_all old are.asked served are.ask are.serve; stays = stay.stays; left = inl stay.left }

pub left_one :
    (old served left new : List ClientValue) → AreServed old served → AreLeft served left → (new ≡ left) ⊎ (new ≡ left ++ silent ∷ []) → AreWaitedFor old new
left_one old served left new are stay (inl same) = record {
  each = map counted served;
  waited = waited_all old are.asked served are.ask are.serve;
  stays = stay.stays;
  left = inl (same ∙ stay.left);
}
left_one old served left new are stay (inr more) = record {
  each = map counted served;
  waited = waited_all old are.asked served are.ask are.serve;
  stays = stay.stays;
  left = inr (more ∙ ap (λ (l : List ClientValue). l ++ silent ∷ []) stay.left);
}

-- what a vector has once its slice was changed
pub slice_back : (n : ℕ) (new old : List ClientValue) → n ≡ length old → length new ≡ length old → take n (new ++ drop (length new) old) ≡ new
slice_back n new old same as_many =
    ap (λ (l : List ClientValue). take n (new ++ l)) (drop_all (length new) old (omega arith))
    ∙ ap (λ (l : List ClientValue). take n l) (append-nil new)
    ∙ take_all n new (omega arith)
