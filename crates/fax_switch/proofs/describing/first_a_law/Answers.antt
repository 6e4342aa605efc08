use Rattle.std.proofs.Common.{option_map, ap, ◌∙◌}
use Rattle.fax_switch.specs.Descriptions.{is_a_law}
use Rattle.fax_sdp.specs.Sessions.{medium_text}
use Rattle.fax_switch.proofs.Findings.{found_view}
use Rattle.fax_switch.proofs.describing.first_a_law.Goals as goal

pub returns : goal.returns
returns c = ap (option_map medium_text) c.find_a_law.ensures ∙ found_view medium_text is_a_law c.args.media.now
