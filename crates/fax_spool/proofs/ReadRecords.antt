-- Octets of records that are read, one after another.
use Rattle.std.proofs.Common.{◌≡◌, ℕ, List, [], ◌∷◌, ◌++◌, sym, subst}
use Rattle.fax_spool.specs.SpoolRecords.{IsReadAs, AreReadAs}
use Rattle.fax_spool.specs.declared.spool_record.SpoolRecord.{SpoolRecord}

pub read_push : (items : List (List ℕ)) (records : List SpoolRecord) (item : List ℕ) (r : SpoolRecord) → AreReadAs items records → IsReadAs item r → AreReadAs (items ++ item ∷ []) (records ++ r ∷ [])
read_push [] [] item r are is = (is, tt)
read_push [] (q ∷ records) item r are is = absurd are
read_push (i ∷ items) [] item r are is = absurd are
read_push (i ∷ items) (q ∷ records) item r are is = (are.0, read_push items records item r are.1 is)

pub read_append : (items more : List (List ℕ)) (records others : List SpoolRecord) → AreReadAs items records → AreReadAs more others → AreReadAs (items ++ more) (records ++ others)
read_append [] more [] others are after = after
read_append [] more (q ∷ records) others are after = absurd are
read_append (i ∷ items) more [] others are after = absurd are
read_append (i ∷ items) more (q ∷ records) others are after = (are.0, read_append items more records others are.1 after)

-- octets are read alike, wherever they stand
pub read_through : (item octets : List ℕ) (r : SpoolRecord) → item ≡ octets → IsReadAs octets r → IsReadAs item r
read_through item octets r same is = subst (λ (l : List ℕ). IsReadAs l r) (sym same) is

pub read_all_through : (items octets : List (List ℕ)) (records : List SpoolRecord) → items ≡ octets → AreReadAs octets records → AreReadAs items records
read_all_through items octets records same are = subst (λ (l : List (List ℕ)). AreReadAs l records) (sym same) are
