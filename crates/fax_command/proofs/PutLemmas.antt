-- Texts that were put into a sink, or after what waits for it.
use Rattle.std.proofs.Common.{◌≡◌, ℕ, List, [], ◌++◌, Option, None, Some, Result, Ok, Err, sym, ◌∙◌, ap, append_assoc, append-nil}
use Rattle.std.specs.Result.{OnOk}
use Rattle.std.specs.Io.KnownBytes.{Appends, append_known}
use Rattle.std.proofs.KnownBytes.{Appends-nil, Appends-trans}
use Rattle.fax_command.specs.Streams.{Puts}

-- nothing was put
pub Puts-nothing : (held : Option (List ℕ)) (waiting : List ℕ) → Puts held waiting held waiting []
Puts-nothing held waiting = record { grows = Appends-nil (append_known held waiting) }

-- one text after another
pub Puts-then : (a b c : Option (List ℕ)) (u v w : List ℕ) (s t : List ℕ) → Puts a u b v s → Puts b v c w t → Puts a u c w (s ++ t)
Puts-then a b c u v w s t p q = record { grows = Appends-trans (append_known a u) (append_known b v) (append_known c w) s t p.grows q.grows }

-- a text, and another text that is equal
pub Puts-same : (a b : Option (List ℕ)) (u v s t : List ℕ) → Puts a u b v s → t ≡ s → Puts a u b v t
Puts-same a b u v s t p e = rw e p

-- octets wait
waits : (a : Option (List ℕ)) (v w text : List ℕ) → w ≡ v ++ text → Appends (append_known a v) (append_known a w) text
waits None v w text e = tt
waits (Some x) v w text e = ap (λ l. x ++ l) e ∙ sym (append_assoc x v text)

pub Puts-waiting : (a : Option (List ℕ)) (v w text : List ℕ) → w ≡ v ++ text → Puts a v a w text
Puts-waiting a v w text e = record { grows = waits a v w text e }

-- what waits was written
written : (a b : Option (List ℕ)) (v w : List ℕ) → Appends a b v → w ≡ [] → Appends (append_known a v) (append_known b w) []
written None b v w p e = tt
written (Some x) None v w p e = absurd p
written (Some x) (Some y) v w p e = ap (λ l. y ++ l) e ∙ append-nil y ∙ p ∙ sym (append-nil (x ++ v))

pub Puts-written : (a b : Option (List ℕ)) (v w : List ℕ) → Appends a b v → w ≡ [] → Puts a v b w []
Puts-written a b v w p e = record { grows = written a b v w p e }

-- octets were written while none waited
at_once : (a b : Option (List ℕ)) (v text : List ℕ) → v ≡ [] → Appends a b text → Appends (append_known a v) (append_known b v) text
at_once None b v text e p = tt
at_once (Some x) None v text e p = absurd p
at_once (Some x) (Some y) v text e p =
    ap (λ l. y ++ l) e ∙ append-nil y ∙ p ∙ ap (λ l. l ++ text) (sym (ap (λ l. x ++ l) e ∙ append-nil x))

pub Puts-at_once : (a b : Option (List ℕ)) (v text : List ℕ) → v ≡ [] → Appends a b text → Puts a v b v text
Puts-at_once a b v text e p = record { grows = at_once a b v text e p }

-- what was put is written, where nothing waited before and nothing does after
all : (a b : Option (List ℕ)) (v w text : List ℕ) → v ≡ [] → w ≡ [] → Appends (append_known a v) (append_known b w) text → Appends a b text
all None b v w text none e p = tt
all (Some x) None v w text none e p = absurd p
all (Some x) (Some y) v w text none e p =
    sym (append-nil y) ∙ ap (λ l. y ++ l) (sym e) ∙ p ∙ ap (λ l. l ++ text) (ap (λ l. x ++ l) none ∙ append-nil x)

pub Puts-all : (a b : Option (List ℕ)) (v w text : List ℕ) → v ≡ [] → w ≡ [] → Puts a v b w text → Appends a b text
Puts-all a b v w text none e p = all a b v w text none e p.grows

-- a text whose last part is put by a call that may fail
pub Puts-last : {E : Type 0} (r : Result Unit E) (a b c : Option (List ℕ)) (u v w s t whole : List ℕ) → Puts a u b v s → whole ≡ s ++ t
    → OnOk r (Puts b v c w t) → OnOk r (Puts a u c w whole)
Puts-last (Ok done) a b c u v w s t whole p e q = Puts-same a c u w (s ++ t) whole (Puts-then a b c u v w s t p q) e
Puts-last (Err fault) a b c u v w s t whole p e q = tt

-- what a call that may fail leaves after it, and what follows from that
pub OnOk-then : {T E P Q : Type 0} (r : Result T E) → OnOk r P → (P → Q) → OnOk r Q
OnOk-then (Ok done) p f = f p
OnOk-then (Err fault) p f = tt
