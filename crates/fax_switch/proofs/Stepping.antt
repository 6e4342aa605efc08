-- Each call hears an event, and then one more is there.
use Rattle.std.proofs.Common.{◌≡◌, ℕ, ◌+◌, List, [], ◌∷◌, ◌++◌, length, drop, Option, None, Some, ap, ◌∙◌}
use Rattle.std.proofs.Math.Seq.{take-append_seam, drop-append_seam, take-length, drop-length}
use Rattle.std.proofs.lemmas.List.{append-nil}
use Rattle.fax_switch.specs.declared.call.Entry.{Entry}
use Rattle.fax_switch.specs.declared.event.Event.{Event}
use Rattle.fax_switch.specs.Tables.{Table, stepped, stepped_first, with_new}

abbrev table_of : ℕ → ℕ → List Entry → Table
table_of next most entries = record { next = next; most = most; entries = entries }

all_stepped : (now : ℕ) (event : Event) (entries : List Entry) → stepped_first (length entries) now event entries ≡ stepped now event entries
all_stepped now event entries =
    ap (λ (xs : List Entry). stepped now event xs ++ drop (length entries) entries) (take-length entries)
    ∙ (ap (λ (xs : List Entry). stepped now event entries ++ xs) (drop-length entries) ∙ append-nil (stepped now event entries))

old_stepped : (now : ℕ) (event : Event) (entries : List Entry) (new : Entry) → stepped_first (length entries) now event (entries ++ new ∷ []) ≡ stepped now event entries ++ new ∷ []
old_stepped now event entries new =
    ap (λ (xs : List Entry). stepped now event xs ++ drop (length entries) (entries ++ new ∷ [])) (take-append_seam entries (new ∷ []))
    ∙ ap (λ (xs : List Entry). stepped now event entries ++ xs) (drop-append_seam entries (new ∷ []))

first_stepped_at : (new : Option Entry) (next most now : ℕ) (event : Event) (entries : List Entry)
    → table_of (with_new new (table_of next most entries)).next (with_new new (table_of next most entries)).most
    (stepped_first (length entries) now event (with_new new (table_of next most entries)).entries) ≡ with_new new (table_of next most (stepped now event entries))
first_stepped_at None next most now event entries = ap (table_of next most) (all_stepped now event entries)
first_stepped_at (Some entry) next most now event entries = ap (table_of (next + 1) most) (old_stepped now event entries entry)

pub first_stepped : (new : Option Entry) (before after result : Table) (now : ℕ) (event : Event) (count : ℕ) → count ≡ length before.entries → after ≡ with_new new before
    → result ≡ table_of after.next after.most (stepped_first count now event after.entries)
    → result ≡ with_new new (table_of before.next before.most (stepped now event before.entries))
first_stepped new before after result now event count is added has =
    has ∙ (ap (λ (t : Table). table_of t.next t.most (stepped_first count now event t.entries)) added
    ∙ (ap (λ (n : ℕ). table_of (with_new new before).next (with_new new before).most (stepped_first n now event (with_new new before).entries)) is
    ∙ first_stepped_at new before.next before.most now event before.entries))
