-- One record more, and the records of two runs, told.
use Rattle.std.proofs.Common.{List, [], ◌∷◌, ◌++◌, Option, refl, subst}
use Rattle.fax_capture.specs.pcap.Captures.{TimedPacket}
use Rattle.fax_capture.specs.declared.options.CaptureOptions.{CaptureOptions}
use Rattle.fax_capture.specs.Scripts.{ScriptSoFar, TellsAll, TellsFound}

pub TellsAll-push : (options : CaptureOptions) (old : ScriptSoFar) (founds : List (Option TimedPacket)) (found : Option TimedPacket) (mid new : ScriptSoFar)
    → TellsAll options old founds mid → TellsFound options mid found new → TellsAll options old (founds ++ found ∷ []) new
TellsAll-push options old [] found mid new all one = (new, subst (λ (t : ScriptSoFar). TellsFound options t found new) all one, refl)
TellsAll-push options old (f ∷ founds) found mid new all one = (all.0, all.1, TellsAll-push options all.0 founds found mid new all.2 one)

pub TellsAll-append : (options : CaptureOptions) (old : ScriptSoFar) (founds others : List (Option TimedPacket)) (mid new : ScriptSoFar)
    → TellsAll options old founds mid → TellsAll options mid others new → TellsAll options old (founds ++ others) new
TellsAll-append options old [] others mid new all more = subst (λ (t : ScriptSoFar). TellsAll options t others new) all more
TellsAll-append options old (f ∷ founds) others mid new all more = (all.0, all.1, TellsAll-append options all.0 founds others mid new all.2 more)
