-- What the reports of a try come to (this project's profile).
use Rattle.std.specs.Prelude.{ℕ, ◌+◌, ◌-◌, ◌^◌, min, Option, Some, None}
use Rattle.fax_desk.specs.declared.questions.Cause.{Cause}
use Rattle.fax_jobs.specs.declared.outcome.Outcome.{Outcome}
use Rattle.fax_jobs.specs.declared.outcome.Outcome.TheVariants.{Delivered, FineLacking, HungUp, NoAnswer, NoReply, NotPlaced, NotReceiver, PageRefused, RatesSpent, WidthLacking}
use Rattle.fax_jobs.specs.declared.report.Report.{Report}
use Rattle.fax_redial.specs.declared.job.RetryEnd.{RetryEnd}
use Rattle.fax_redial.specs.declared.job.RetryJob.{RetryJob}
use Rattle.fax_redial.specs.declared.total.FailedTry.{FailedTry}
use Rattle.fax_redial.specs.declared.total.TryTotal.{TryTotal}

abbrev pub no_total : TryTotal
no_total = record { delivered = 0; failed = None }

abbrev pub failed_by : Outcome → Option Cause → Option FailedTry
failed_by Delivered cause = None
failed_by NotReceiver cause = Some (record { outcome = NotReceiver; cause = cause })
failed_by WidthLacking cause = Some (record { outcome = WidthLacking; cause = cause })
failed_by FineLacking cause = Some (record { outcome = FineLacking; cause = cause })
failed_by RatesSpent cause = Some (record { outcome = RatesSpent; cause = cause })
failed_by NoAnswer cause = Some (record { outcome = NoAnswer; cause = cause })
failed_by NoReply cause = Some (record { outcome = NoReply; cause = cause })
failed_by PageRefused cause = Some (record { outcome = PageRefused; cause = cause })
failed_by HungUp cause = Some (record { outcome = HungUp; cause = cause })
failed_by NotPlaced cause = Some (record { outcome = NotPlaced; cause = cause })

-- Reports count up to the first job that was not delivered, with the pages of it that were.
abbrev pub total_unless : Option FailedTry → Report → Option Cause → TryTotal → TryTotal
total_unless (Some failed) report cause before = before
total_unless None report cause before =
    record {
      delivered = min (before.delivered + report.delivered) (2 ^ 32 - 1);
      failed = failed_by report.outcome cause;
    }

abbrev pub total_after : Report → Option Cause → TryTotal → TryTotal
total_after report cause before = total_unless before.failed report cause before

abbrev pub total_if : Option Report → Option Cause → TryTotal → TryTotal
total_if None cause before = before
total_if (Some report) cause before = total_after report cause before

-- HOW A TRY OF A JOB ENDED, by what its reports came to
abbrev pub end_if : RetryJob → ℕ → Option FailedTry → RetryEnd
end_if job delivered None = record {
  name = job.name;
  numbers = job.numbers;
  delivered = delivered;
  outcome = Delivered;
  cause = None;
}
end_if job delivered (Some failed) = record {
  name = job.name;
  numbers = job.numbers;
  delivered = delivered;
  outcome = failed.outcome;
  cause = failed.cause;
}
