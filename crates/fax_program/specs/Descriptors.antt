-- What a server has open. (This project's profile.)
use Rattle.std.specs.Prelude.{ℕ, ◌+◌, ◌*◌, Option, None, Some, length}
use Rattle.fax_config.specs.declared.config.Config.{Config}

-- a control socket, and 64 clients of it
abbrev pub of_control : {Path : Type 0} → Option Path → ℕ
of_control None = 0
of_control (Some path) = 1 + 64

-- a listener for HTTP, and 16 connections
abbrev pub of_http : {Address : Type 0} → Option Address → ℕ
of_http None = 0
of_http (Some address) = 1 + 16

-- the files of a spool, and those of what could not be delivered
abbrev pub of_spool : {Path : Type 0} → Option Path → ℕ
of_spool None = 0
of_spool (Some folder) = 4

-- the socket of SIP, and that of all audio
abbrev pub of_sip : {Sip : Type 0} → Option Sip → ℕ
of_sip None = 0
of_sip (Some sip) = 2

-- two sockets a line, one a redial line, and beside those the standard streams, what sockets are waited for by, and one to spare
abbrev pub most_descriptors : Config → ℕ
most_descriptors config = 2 * length config.lines.items + length config.redial.items + 5
    + of_control config.control + of_http config.http + of_spool config.spool + of_sip config.sip
