use Rattle.fax_line.proofs.AllStored.{run_keeps}
use Rattle.fax_line.proofs.laws.runs_store_pages.Goals as goal

pub returns : goal.returns
returns g c = run_keeps g.row.K.Denot g.K.RunStore.is_same g.K.PageStore.puts g.K.RunStore.notes g.K.RunStore.ends g.K.PageStore.keeps
