use Rattle.std.proofs.Common.{◌≡◌, ◌+◌, ◌<◌, ℕ, List, [], ◌∷◌, ◌++◌, Vec, Global, length, map, take, get_or, sym, ◌∙◌, ap, subst, arith}
use Rattle.std.proofs.lemmas.List.{map_push, take_all, take_more}
use Rattle.fax_spool.specs.RecordOctets.{EndedValue}
use Rattle.fax_spool.specs.SpoolRecords.{AreReadAs, IsReadAs, ended_record}
use Rattle.fax_spool.specs.declared.spool_record.SpoolRecord.{SpoolRecord}
use Rattle.fax_spool.specs.declared.spool_record.SpoolRecord.TheVariants.{Ended}
use Rattle.fax_spool.proofs.ReadRecords.{read_push}
use Rattle.fax_spool.proofs.stored_page.seal_ends.Goals as goal

-- one more is sealed
next_sealed : (before after : List (Vec ℕ Global)) (v : Vec ℕ Global) (ended : List EndedValue) (i : ℕ) (job : EndedValue) → i < length ended → get_or ended i job ≡ job
    → after ≡ before ++ v ∷ [] → IsReadAs v.items (Ended job) → AreReadAs (map (λ (w : Vec ℕ Global). w.items) before) (map ended_record (take i ended))
    → AreReadAs (map (λ (w : Vec ℕ Global). w.items) after) (map ended_record (take (i + 1) ended))
next_sealed before after v ended i job lt got pushed is was =
    let items : map (λ (w : Vec ℕ Global). w.items) after ≡ map (λ (w : Vec ℕ Global). w.items) before ++ v.items ∷ [] =
    ap (λ (l : List (Vec ℕ Global)). map (λ (w : Vec ℕ Global). w.items) l) pushed ∙ map_push (λ (w : Vec ℕ Global). w.items) before v in
    let records : map ended_record (take (i + 1) ended) ≡ map ended_record (take i ended) ++ Ended job ∷ [] =
    ap (λ (l : List EndedValue). map ended_record l) (take_more ended i job lt ∙ ap (λ (e : EndedValue). take i ended ++ e ∷ []) got) ∙ map_push ended_record (take i ended) job in
    subst (λ (l : List (List ℕ)). AreReadAs l (map ended_record (take (i + 1) ended))) (sym items)
    (subst (λ (l : List SpoolRecord). AreReadAs (map (λ (w : Vec ℕ Global). w.items) before ++ v.items ∷ []) l) (sym records)
    (read_push (map (λ (w : Vec ℕ Global). w.items) before) (map ended_record (take i ended)) v.items (Ended job) was is))

pub loop-job-init : goal.loop-job-init
loop-job-init c = subst (λ (l : List (Vec ℕ Global)). AreReadAs (map (λ (w : Vec ℕ Global). w.items) l) []) (sym c.in_ok-items.ensures.items) tt

pub loop-job-preserved : goal.loop-job-preserved
loop-job-preserved c =
    next_sealed c.loop-job.items.items c.push.new.self.items c.in_ok-item.item c.args.ended.now c.loop-job.job-index c.job-item.result c.loop-job-test.true
    (sym c.job-item.is) c.in_ok-push.ensures.items c.in_ok-item.ensures c.loop-job.invariant

pub returns : goal.returns
returns c = subst (λ (l : List EndedValue). AreReadAs (map (λ (w : Vec ℕ Global). w.items) c.loop-job.items.items) (map ended_record l)) (take_all c.loop-job.job-index c.args.ended.now (omega (arith, c.loop-job-test.false))) c.loop-job.invariant
