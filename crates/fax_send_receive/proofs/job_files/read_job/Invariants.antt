use Rattle.std.proofs.Common.{map, take}
use Rattle.fax_send_receive.specs.Files.{ArePagesOfFiles}
use Rattle.fax_send_receive.specs.Runs.{IsBegun, pages_of}
use Rattle.fax_send_receive.proofs.job_files.read_job.Given as goal

-- the pages of the files so far
abbrev pub invariant-loop-name : goal.invariant-loop-name
invariant-loop-name g l = record {
  begun : IsBegun l.job;
  pages : ArePagesOfFiles (g.F.NamedFiles.holds l.fn.files) l.fn.reading.format l.fn.reading.coding (take l.name-index (map (λ name. name.now) l.fn.names)) (pages_of l.job);
}
