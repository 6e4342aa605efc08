use Rattle.std.proofs.Common.{inl, refl, ◌∙◌, ap}
use Rattle.fax_runs.proofs.restarts.Files.{if_ok, told_again}
use Rattle.fax_runs.proofs.restarts.memory.open_again.Goals as goal

pub returns : goal.returns
returns c = if_ok c.open_over-2.result _ _
    (λ last. told_again _ _ _ (λ file. inl refl) c.new_spools_tell_none.ensures c.openings_find_what_crashes_leave.ensures c.crashes_leave_what_waits.ensures c.args.page.now
    c.in_ok-opened.opened c.put.new.self c.bytes.result.now c.bytes-2.result.now last c.in_ok-opened.ensures c.in_ok-put.ensures.does
    (c.bytes.ensures ∙ ap (λ f. f.1.disk.bytes.items) c.into_files-older.ensures) (c.bytes-2.ensures ∙ ap (λ f. f.0.disk.bytes.items) c.into_files-older.ensures))
    c.open_over-2.ensures
