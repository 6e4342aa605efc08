-- The numbers and the names of the outcomes of a job. (This project's profile.)
use Rattle.std.specs.Prelude.{ℕ, List, codes}
use Rattle.fax_jobs.specs.declared.outcome.Outcome.{Outcome}
use Rattle.fax_jobs.specs.declared.outcome.Outcome.TheVariants.{Delivered, NotReceiver, WidthLacking, FineLacking, RatesSpent, NoAnswer, NoReply, PageRefused, HungUp, NotPlaced}

abbrev pub outcome_number : Outcome → ℕ
outcome_number Delivered = 0
outcome_number NotReceiver = 1
outcome_number WidthLacking = 2
outcome_number FineLacking = 3
outcome_number RatesSpent = 4
outcome_number NoAnswer = 5
outcome_number NoReply = 6
outcome_number PageRefused = 7
outcome_number HungUp = 8
outcome_number NotPlaced = 9

abbrev pub outcome_name : Outcome → List ℕ
outcome_name Delivered = codes "Delivered"
outcome_name NotReceiver = codes "NotReceiver"
outcome_name WidthLacking = codes "WidthLacking"
outcome_name FineLacking = codes "FineLacking"
outcome_name RatesSpent = codes "RatesSpent"
outcome_name NoAnswer = codes "NoAnswer"
outcome_name NoReply = codes "NoReply"
outcome_name PageRefused = codes "PageRefused"
outcome_name HungUp = codes "HungUp"
outcome_name NotPlaced = codes "NotPlaced"
