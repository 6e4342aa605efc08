use Rattle.std.proofs.Common.{refl, IsTrue, List, ℕ, drop, sym, ◌∙◌, subst}
use Rattle.sqlite_disk.specs.Disk.{Torn, Only}
use Rattle.fax_spool.specs.Records.{Stands}
use Rattle.fax_spool.specs.Found.{items_of}
use Rattle.fax_spool.specs.Settled.{IsSettled}
use Rattle.fax_spool.proofs.Recovery.{HasShut, file_found, left_by_shut, settled_found, settled_shut}
use Rattle.fax_spool.proofs.file.recover.Goals as goal
use Rattle.fax_spool.proofs.file.recover.Goals.{then-not-is_shut+in_ok-shut, else-not-is_shut}

pub returns-in_err-shut-clause-crash : goal.returns-in_err-shut-clause-crash
returns-in_err-shut-clause-crash g c = λ clean rs stands f left.
    let octets = c.as_slice.ensures.value in
    let same = octets ∙ c.in_ok-octets.ensures.octets (c.shut.ensures.clean clean) in
    let slices = octets ∙ sym c.as_slice-2.ensures.value in
    left_by_shut _ c.in_ok-found.found c.in_ok-found.ensures _ same (λ p. cc (c.if-not-is_shut.ensures.1 (subst (λ (l : List ℕ). HasShut (drop c.in_ok-found.found.end l)) slices p))) _ _
    (λ d was. c.requires.durable d (c.read_all.ensures.crash d was))
    c.shut.ensures.crash rs stands f left

pub returns-clause-crash : goal.returns-clause-crash
returns-clause-crash g c = λ clean rs stands f left. elim c.if-not-is_shut.branch [
  | then-not-is_shut+in_ok-shut w ↦
      let octets = c.as_slice.ensures.value in
      let was_clean = w.shut.ensures.clean (subst (λ d. IsTrue (g.D.Disk.is_clean d)) w.disk-is clean) in
      let same = octets ∙ c.in_ok-octets.ensures.octets was_clean in
      let slices = octets ∙ sym c.as_slice-2.ensures.value in
      left_by_shut _ c.in_ok-found.found c.in_ok-found.ensures _ same (λ p. cc (w.if-not-is_shut.ensures.1 (subst (λ (l : List ℕ). HasShut (drop c.in_ok-found.found.end l)) slices p))) _ _
      (λ d was. c.requires.durable d (c.read_all.ensures.crash d was))
      w.shut.ensures.crash rs stands f (subst (λ d. g.D.Disk.may_leave d f) w.disk-is left)
  | else-not-is_shut w ↦ subst (λ (l : List ℕ). Stands l rs) (sym (c.requires.durable f (c.read_all.ensures.crash f (subst (λ d. g.D.Disk.may_leave d f) w.disk-is left)))) stands
]

pub returns-clause-found : goal.returns-clause-found
returns-clause-found g c = λ clean.
    let was_clean : IsTrue (g.D.Disk.is_clean c.read_all.new.disk) = elim c.if-not-is_shut.branch [
      | then-not-is_shut+in_ok-shut w ↦ w.shut.ensures.clean (subst (λ d. IsTrue (g.D.Disk.is_clean d)) w.disk-is clean)
      | else-not-is_shut w ↦ subst (λ d. IsTrue (g.D.Disk.is_clean d)) w.disk-is clean
    ] in
    file_found _ c.in_ok-found.found c.in_ok-found.ensures _ (c.as_slice.ensures.value ∙ c.in_ok-octets.ensures.octets was_clean)

pub returns-clause-settled : goal.returns-clause-settled
returns-clause-settled g c = λ clean. elim c.if-not-is_shut.branch [
  | then-not-is_shut+in_ok-shut w ↦
      let octets = c.as_slice.ensures.value in
      let was_clean = w.shut.ensures.clean (subst (λ d. IsTrue (g.D.Disk.is_clean d)) w.disk-is clean) in
      let same = octets ∙ c.in_ok-octets.ensures.octets was_clean in
      let torn = subst (λ (l : List ℕ). Torn c.in_ok-found.found.end 3 l (g.D.Disk.seen w.shut.new.disk)) c.read_all.ensures.seen w.shut.ensures.others in
      subst (λ d. IsSettled g.D.Disk.seen g.D.Disk.may_leave g.D.Disk.is_usable d c.in_ok-found.found.end (items_of c.in_ok-found.found)) (sym w.disk-is)
      (settled_shut _ c.in_ok-found.found c.in_ok-found.ensures g.D.Disk.seen g.D.Disk.may_leave g.D.Disk.is_usable _ w.shut.new.disk same torn w.in_ok-shut.ensures.written w.in_ok-shut.ensures.durable w.in_ok-shut.ensures.usable)
  | else-not-is_shut w ↦
      let octets = c.as_slice.ensures.value in
      let was_clean = subst (λ d. IsTrue (g.D.Disk.is_clean d)) w.disk-is clean in
      let same = octets ∙ c.in_ok-octets.ensures.octets was_clean ∙ sym c.read_all.ensures.seen in
      let slices = c.as_slice-2.ensures.value ∙ sym octets in
      let shut = subst (λ (l : List ℕ). HasShut (drop c.in_ok-found.found.end l)) slices (w.if-not-is_shut.ensures.0 refl) in
      let only : Only (g.D.Disk.seen c.read_all.new.disk) (g.D.Disk.may_leave c.read_all.new.disk) = λ d was. c.requires.durable d (c.read_all.ensures.crash d was) ∙ sym c.read_all.ensures.seen in
      subst (λ d. IsSettled g.D.Disk.seen g.D.Disk.may_leave g.D.Disk.is_usable d c.in_ok-found.found.end (items_of c.in_ok-found.found)) (sym w.disk-is)
      (settled_found _ c.in_ok-found.found c.in_ok-found.ensures g.D.Disk.seen g.D.Disk.may_leave g.D.Disk.is_usable c.read_all.new.disk same shut only c.read_all.ensures.usable)
]
