-- The pages of a job that were not delivered, read from the disk.
use Rattle.std.proofs.Common.{◌≡◌, ℕ, ◌-◌, ◌≤◌, inl, inr, true, List, [], ◌∷◌, length, map, take, drop, sym, subst, arith}
use Rattle.fax_spool.specs.RecordOctets.{PageValue}
use Rattle.fax_spool.specs.Waits.{PageName, name_of}
use Rattle.fax_queue.specs.declared.queue.QueuedPage.{QueuedPage}
use Rattle.fax_queue.specs.Queues.{AreAmong, IsAmong, name_in, not_delivered}
use Rattle.fax_queue.proofs.Naming.{rest_is}

-- a page that was found is among them
pub among_here : (name : PageName) (rest after : List PageValue) (page : PageValue) → rest ≡ page ∷ after → name_of page ≡ name → IsAmong name (map name_of rest)
among_here name rest after page split is = subst (λ (l : List PageValue). IsAmong name (map name_of l)) (sym split) (inl is)

pub among_later : (name : PageName) (rest after : List PageValue) (page : PageValue) → rest ≡ page ∷ after → IsAmong name (map name_of after) → IsAmong name (map name_of rest)
among_later name rest after page split is = subst (λ (l : List PageValue). IsAmong name (map name_of l)) (sym split) (inr is)

-- so are all of these
pub all_later : (line : List ℕ) (names : List PageName) (rest after : List QueuedPage) (page : QueuedPage) → rest ≡ page ∷ after → (page.is_stored ≡ true → IsAmong (name_in line page) names)
    → AreAmong line after names → AreAmong line rest names
all_later line names rest after page split is are = subst (λ (l : List QueuedPage). AreAmong line l names) (sym split) (is, are)

pub all_at_end : (line : List ℕ) (names : List PageName) (rest : List QueuedPage) → rest ≡ [] → AreAmong line rest names
all_at_end line names rest none = subst (λ (l : List QueuedPage). AreAmong line l names) (sym none) tt

-- where all were delivered
pub all_delivered : (line : List ℕ) (names : List PageName) (pages delivered : ℕ) (waits : List QueuedPage) → pages ≤ delivered → AreAmong line (not_delivered pages delivered waits) names
all_delivered line names pages delivered waits most =
    let none : pages - delivered ≡ 0 = omega (arith, most) in
    subst (λ (n : ℕ). AreAmong line (take n (drop delivered waits)) names) (sym none) tt

-- all that is wanted is found, as the code has it
pub all_through : (line said : List ℕ) (count n : ℕ) (slice waits : List QueuedPage) (read found : List PageValue) → said ≡ line → slice ≡ waits → found ≡ read
    → AreAmong said (take count (take (length slice - n) (drop n slice))) (map name_of found) → AreAmong line (take count (drop n waits)) (map name_of read)
all_through line said count n slice waits read found lines slices reads are =
    subst (λ (l : List ℕ). AreAmong l (take count (drop n waits)) (map name_of read)) lines
    (subst (λ (p : List QueuedPage). AreAmong said (take count p) (map name_of read)) (rest_is n slice waits slices)
    (subst (λ (l : List PageValue). AreAmong said (take count (take (length slice - n) (drop n slice))) (map name_of l)) reads are))
