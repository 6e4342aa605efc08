-- One record more of a list that is read from its front.
use Rattle.std.proofs.Common.{◌≡◌, ℕ, List, [], ◌∷◌, ◌++◌, length, refl, sym, ◌∙◌, ap, subst, arith, append_assoc}
use Rattle.std.proofs.lemmas.List.{append-nil}
use Rattle.fax_spool.specs.SpoolRecords.{IsReadAs, AreReadAs}
use Rattle.fax_spool.specs.declared.spool_record.SpoolRecord.{SpoolRecord}

pub none_more : {X : Type 0} (rest : List X) → length rest ≡ 0 → rest ≡ []
none_more [] none = refl
none_more (x ∷ rest) none = absurd (omega (arith, none))

-- one more of them is read
pub next_read : (all rest after : List (List ℕ)) (item : List ℕ) (records new : List SpoolRecord) (r : SpoolRecord) → rest ≡ item ∷ after → IsReadAs item r → new ≡ records ++ r ∷ []
    → ((more : List SpoolRecord) → AreReadAs rest more → AreReadAs all (records ++ more)) → (more : List SpoolRecord) → AreReadAs after more → AreReadAs all (new ++ more)
next_read all rest after item records new r split is pushed was more are =
    subst (λ (l : List SpoolRecord). AreReadAs all l) (sym (ap (λ (l : List SpoolRecord). l ++ more) pushed ∙ append_assoc records (r ∷ []) more))
    (was (r ∷ more) (subst (λ (l : List (List ℕ)). AreReadAs l (r ∷ more)) (sym split) (is, are)))

pub last_read : (all rest : List (List ℕ)) (records : List SpoolRecord) → rest ≡ [] → ((more : List SpoolRecord) → AreReadAs rest more → AreReadAs all (records ++ more)) → AreReadAs all records
last_read all rest records none was =
    subst (λ (l : List SpoolRecord). AreReadAs all l) (append-nil records) (was [] (subst (λ (l : List (List ℕ)). AreReadAs l []) (sym none) tt))
