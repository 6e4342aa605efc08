-- Which job its own line owes. (This project's profile.)
use Rattle.std.specs.Prelude.{ℕ, ◌&&◌, Bool, nat_eq, bytes_eq, List}
use Rattle.std.specs.List.{list_any}
use Rattle.fax_queue.specs.Queues.{QueueValue}
use Rattle.fax_queue.specs.declared.queue.QueuedPage.{QueuedPage}
use Rattle.fax_spool.specs.Torn.{CallName}

-- a page that waits on a queue came in this call
abbrev pub is_queued : (life call : ℕ) → QueuedPage → Bool
is_queued life call page = nat_eq page.life life && nat_eq page.call call

abbrev pub is_owed_on : CallName → QueueValue → Bool
is_owed_on name queue =
    bytes_eq queue.line name.line && list_any (is_queued name.life name.call) queue.waits

-- A JOB IS OWED while a page of its call waits on the queue of its line, which will send it.
abbrev pub is_owed : List QueueValue → CallName → Bool
is_owed queues name = list_any (is_owed_on name) queues
