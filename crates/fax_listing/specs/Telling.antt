-- What is told beside the lines of jobs. (This project's profile.)
use Rattle.std.specs.Prelude.{ℕ, ◌&&◌, nat_eq, List, [], ◌++◌, codes, decimal, if◌then◌else◌}
use Rattle.fax_spool.specs.declared.listing.Harm.{Harm}

-- a line for each file of which something is harmed
abbrev pub damage_text : (folder file : List ℕ) → Harm → List ℕ
damage_text folder file harm = if nat_eq harm.damaged 0 && nat_eq harm.passed_over 0 then []
    else codes "faxgate: " ++ folder ++ codes "/" ++ file ++ codes ": " ++ decimal harm.damaged
    ++ codes " records damaged, " ++ decimal harm.passed_over ++ codes " octets passed over\n"

abbrev pub no_job_text : (folder : List ℕ) → List ℕ
no_job_text folder = codes "faxgate: " ++ folder ++ codes ": no such job\n"

abbrev pub no_page_text : (name : List ℕ) → List ℕ
no_page_text name = codes "faxgate: " ++ name ++ codes ": the text of this page means none\n"

abbrev pub too_long_text : (name : List ℕ) → List ℕ
too_long_text name = codes "faxgate: " ++ name ++ codes ": the pages are too long for a TIFF\n"
