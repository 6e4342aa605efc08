-- What a command and the values of its options ask for. (This project's profile.)
use Rattle.std.specs.Prelude.{◌≡◌, ℕ, ◌<◌, ◌^◌, ◌-◌, true, false, List, [], Option, Some, None, codes, option_map, map, unwrap_or}
use Rattle.std.specs.List.{join_by}
use Rattle.std.specs.declared.net.ip_addr.IpAddr.{IpAddr}
use Rattle.std.specs.declared.net.ip_addr.IpAddr.TheVariants as ip
use Rattle.std.specs.declared.net.socket_addr.SocketAddr.{SocketAddr}
use Rattle.std.specs.Net.Addr.{IsCanonicalOf, ipv4_octets, ipv6_octets}
use Rattle.std.specs.Net.Grammar.{IsIpText, IsSocketText}
use Rattle.std.specs.Net.Socket.{socket_ip, socket_port}
use Rattle.clap.specs.Words.{Row, Text, all_of, first_of, one_of}
use Rattle.fax_command.specs.declared.options.Output.{Output}
use Rattle.fax_command.specs.declared.options.Output.TheVariants.{Octets, Picture, Runs}
use Rattle.fax_command.specs.declared.options.PageOptions.{PageOptions}
use Rattle.fax_gateway.specs.Setups.{AreAllowed}
use Rattle.fax_capture.specs.declared.address.Host.{Host}
use Rattle.fax_capture.specs.declared.address.Host.TheVariants as host
use Rattle.fax_capture.specs.declared.address.Address.{Address}
use Rattle.fax_capture.specs.declared.machines.Machines.{Machines}
use Rattle.fax_capture.specs.declared.machines.Machines.TheVariants.{Known, Unknown}
use Rattle.fax_capture.specs.declared.options.CaptureOptions.{CaptureOptions}
use Rattle.fax_capture.specs.Addresses.{AreApart}
use Rattle.fax_send_receive.specs.declared.sending.SendOptions.{SendOptions}
use Rattle.fax_send_receive.specs.declared.receiving.ReceiveOptions.{ReceiveOptions}
use Rattle.fax_send_receive.specs.declared.page_naming.PageForm.{PageForm}
use Rattle.fax_send_receive.specs.declared.page_naming.PageForm.TheVariants.{Picture as PictureForm, Tiff as TiffForm}
use Rattle.fax_send_receive.specs.declared.page_naming.PageNaming.{PageNaming}
use Rattle.fax_request.specs.declared.explain_options.ExplainOptions.{ExplainOptions}
use Rattle.fax_request.specs.declared.request.Request.{Request}
use Rattle.fax_request.specs.declared.request.Request.TheVariants.{Page, Trace, Explain, Capture, Loop, Serve, Check, Say, Spool, Send, Receive}
use Rattle.fax_request.specs.SpoolWords.{AreSpoolOptionsOf}
use Rattle.fax_request.specs.Given.{IsNumberOf, IsFlagOf, IsFormatOf, AreSettingsOf, AreScriptSettingsOf, coding_named, repeat_named}

-- what is made of the input: --back, --pbm
abbrev pub IsOutputOf : List Row → Output → Type 0
IsOutputOf given Octets = IsFlagOf (one_of (codes "back") given) true
IsOutputOf given Picture =
    IsFlagOf (one_of (codes "back") given) false × IsFlagOf (one_of (codes "pbm") given) true
IsOutputOf given Runs =
    IsFlagOf (one_of (codes "back") given) false × IsFlagOf (one_of (codes "pbm") given) false

pub record ArePageOptionsOf (given : List Row) (options : PageOptions) : Type 0 where
  pub format : IsFormatOf given options.format
  pub coding : options.coding ≡ coding_named (first_of (codes "coding") given)
  pub least : IsNumberOf (one_of (codes "least") given) 0 65535 0 options.least_bits
  pub output : IsOutputOf given options.output

pub record AreExplainOptionsOf (given : List Row) (options : ExplainOptions) : Type 0 where
  pub settings : AreScriptSettingsOf given options.settings
  pub pages : option_map (λ text. text.now) options.pages ≡ first_of (codes "pages") given

-- the octets of an address, as a host
abbrev pub HasOctets : IpAddr → Host → Type 0
HasOctets (ip.V4 address) (host.V4 octets) = octets ≡ ipv4_octets address
HasOctets (ip.V6 address) (host.V6 octets) = octets ≡ ipv6_octets address
HasOctets address octets = ⊥

-- An address of IPv6 that stands for one of IPv4 (::ffff:192.0.2.10) means that one.
abbrev pub IsHostOf : IpAddr → Host → Type 0
IsHostOf (ip.V4 address) octets = HasOctets (ip.V4 address) octets
IsHostOf (ip.V6 address) octets =
    (meant : IpAddr) × IsCanonicalOf address meant × HasOctets meant octets

-- A text says a host alone, or a host and a port.
abbrev pub SaysHost : Text → Option ℕ → Host → Type 0
SaysHost text None octets = (said : IpAddr) × (IsIpText text said × IsHostOf said octets)
SaysHost text (Some port) octets = (said : SocketAddr)
    × (IsSocketText text said × IsHostOf (socket_ip said) octets × (port ≡ socket_port said))

abbrev pub SaysAddress : Text → Address → Type 0
SaysAddress text address = SaysHost text address.port address.host

-- the text of an option that has to be given
abbrev pub text_given : Text → List Row → Text
text_given option given = unwrap_or (first_of option given) []

-- The call that is asked for has a number from 1 on; where none is said, each call is.
abbrev pub IsCallOf : List Row → Option ℕ → Type 0
IsCallOf given None = IsNumberOf (one_of (codes "call") given) 0 (2 ^ 64 - 1) 0 0
IsCallOf given (Some call) =
    IsNumberOf (one_of (codes "call") given) 0 (2 ^ 64 - 1) 0 call × (0 < call)

-- the machines at the addresses that two texts say, which are apart: no endpoint is at both
abbrev pub AreMachinesAt : Text → Text → Machines → Type 0
AreMachinesAt caller called (Known one other) =
    SaysAddress caller one × SaysAddress called other × AreApart one other
AreMachinesAt caller called machines = ⊥

-- Both addresses are given, or neither is: then the machines are to be found.
abbrev pub AreMachinesBy : Option Text → Option Text → Machines → Type 0
AreMachinesBy (Some caller) (Some called) machines = AreMachinesAt caller called machines
AreMachinesBy None None machines = machines ≡ Unknown
AreMachinesBy caller called machines = ⊥

abbrev pub AreMachinesOf : List Row → Machines → Type 0
AreMachinesOf given machines =
    AreMachinesBy (first_of (codes "caller") given) (first_of (codes "called") given) machines

pub record AreCaptureOptionsOf (given : List Row) (options : CaptureOptions) : Type 0 where
  pub machines : AreMachinesOf given options.machines
  pub call : IsCallOf given options.call

-- the words that are said, with one space between
abbrev pub words_said : List Row → Text
words_said given = join_by (λ word. word) (codes " ") (unwrap_or (all_of (codes "word") given) [])

pub record AreSendOptionsOf (given : List Row) (options : SendOptions) : Type 0 where
  pub to : options.to.now ≡ text_given (codes "to") given
  pub on : option_map (λ text. text.now) options.on ≡ first_of (codes "on") given
  pub format : IsFormatOf given options.format
  pub coding : options.coding ≡ coding_named (first_of (codes "coding") given)
  pub settings : AreSettingsOf given options.settings
  pub repeats : options.repeat ≡ repeat_named (first_of (codes "repeat") given)

-- what stands in the files of received pages: --tiff
abbrev pub IsPageFormOf : List Row → PageForm → Type 0
IsPageFormOf given TiffForm = IsFlagOf (one_of (codes "tiff") given) true
IsPageFormOf given PictureForm = IsFlagOf (one_of (codes "tiff") given) false

pub record IsNamingOf (given : List Row) (naming : PageNaming) : Type 0 where
  pub prefix : naming.prefix.now ≡ unwrap_or (first_of (codes "pages") given) (codes "page")
  pub form : IsPageFormOf given naming.form

pub record AreReceiveOptionsOf (given : List Row) (options : ReceiveOptions) : Type 0 where
  pub on : options.on.now ≡ text_given (codes "on") given
  pub naming : IsNamingOf given options.naming
  pub calls : IsNumberOf (one_of (codes "calls") given) 1 (2 ^ 64 - 1) (2 ^ 64 - 1) options.calls
  pub settings : AreSettingsOf given options.settings
  pub repeats : options.repeat ≡ repeat_named (first_of (codes "repeat") given)

-- what a command and the values of its options ask for
abbrev pub Asks : Text → List Row → Request → Type 0
Asks command given (Page options) = (command ≡ codes "page") × ArePageOptionsOf given options
Asks command given (Trace settings) = (command ≡ codes "trace") × AreScriptSettingsOf given settings
Asks command given (Explain options) =
    (command ≡ codes "explain") × AreExplainOptionsOf given options
Asks command given (Capture options) =
    (command ≡ codes "capture") × AreCaptureOptionsOf given options
Asks command given (Loop settings) = (command ≡ codes "loop") × AreSettingsOf given settings
Asks command given (Serve path) =
    (command ≡ codes "serve") × (path.now ≡ text_given (codes "config") given)
Asks command given (Check path) =
    (command ≡ codes "check") × (path.now ≡ text_given (codes "config") given)
Asks command given (Say socket saying) = (command ≡ codes "say")
    × (socket.now ≡ text_given (codes "socket") given) × (saying ≡ words_said given)
Asks command given (Spool options) = (command ≡ codes "spool") × AreSpoolOptionsOf given options
Asks command given (Send options files) = (command ≡ codes "send") × AreSendOptionsOf given options
    × (map (λ file. file.now) files.items ≡ unwrap_or (all_of (codes "file") given) [])
Asks command given (Receive options) =
    (command ≡ codes "receive") × AreReceiveOptionsOf given options

-- the same of the command that was found, if one was
abbrev pub IsAskedBy : Option (Text × List Row) → Request → Type 0
IsAskedBy None request = ⊥
IsAskedBy (Some found) request = Asks found.0 found.1 request

-- settings of a gateway or a terminal are within their limits
abbrev pub IsAllowed : Request → Type 0
IsAllowed (Trace settings) = AreAllowed settings
IsAllowed (Explain options) = AreAllowed options.settings
IsAllowed (Loop settings) = AreAllowed settings
IsAllowed (Send options files) = AreAllowed options.settings
IsAllowed (Receive options) = AreAllowed options.settings
IsAllowed request = Unit {0}
