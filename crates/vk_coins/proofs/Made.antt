-- What a command did that came to its end.
use Rattle.std.proofs.Common.{◌≡◌, ℕ, List, Option, Some, None, IfSome, sym, subst}
use Rattle.vk_io.specs.Files.{Files}
use Rattle.vk_keeper.specs.Ledgers.{Ledger}
use Rattle.vk_report.specs.declared.report.Report.{Report}
use Rattle.vk_report.specs.Meaning.{IsReportOn}
use Rattle.vk_words.specs.Coins.{ChallengeWords, CoinWords, Part, Join, Board}
use Rattle.vk_effect.specs.Effects.{DeedValue, Outside, does, outside, stores}
use Rattle.vk_effect.specs.Ends.{Done}
use Rattle.vk_coin.specs.declared.coin.Coin.{Coin}
use Rattle.vk_coins.specs.Boards.{board_deed}
use Rattle.vk_coins.specs.Deeds.{coin_on}
use Rattle.vk_coins.specs.Drawing.{part_deed}
use Rattle.vk_coins.specs.Joining.{join_deed}
use Rattle.vk_coins.specs.Meaning.{Derives, HasJoint, HasUnmet, IsDone, Joins, MakesChallenge}
use Rattle.vk_coins.proofs.BoardEnds.{derives_exactly}
use Rattle.vk_coins.proofs.JoinEnds.{joins_exactly}

-- what holds of a deed that is this one holds of it, with its status
joins_too : (files : Files) (names : ChallengeWords) (deed : DeedValue) (Is : DeedValue → Type 0)
    (status : ℕ) → Is deed → status ≡ deed.said.status
    → Joins files names (λ this. deed ≡ this) deed.said.status → Joins files names Is status
joins_too files names deed Is status here same joins = record {
  joined = λ coin has. subst Is (joins.joined coin has) here;
  unmet = λ coin auditor has. subst Is (joins.unmet coin auditor has) here;
  unread = λ said is. subst Is (joins.unread said is) here;
  done = subst (λ n. n ≡ 0 → (coin : Coin) × HasJoint files names.from coin) (sym same) joins.done;
  refused = subst (λ n. n ≡ 1 → (coin : Coin)
      × ((auditor : ℕ) × HasUnmet files names.from coin auditor)) (sym same) joins.refused;
}

derives_too : (files : Files) (names : ChallengeWords) (deed : DeedValue) (Is : DeedValue → Type 0)
    (status : ℕ) → Is deed → status ≡ deed.said.status
    → Derives files names (λ this. deed ≡ this) deed.said.status → Derives files names Is status
derives_too files names deed Is status here same derives = record {
  derived = λ report is. subst Is (derives.derived report is) here;
  unreported = λ fault is. subst Is (derives.unreported fault is) here;
  done = subst (λ n. n ≡ 0 → (report : Report) × IsReportOn files names.from report) (sym same)
      derives.done;
}

module _ (ledger : Option Ledger) (status : ℕ) (old : Option (List ℕ)) (new : Outside) where
  abbrev Ends : Option Files → DeedValue → Type 0
  Ends held deed = Done status (does ledger deed) (outside (stores held ledger) old) new

  is_done : (held : Option Files) (deed : DeedValue) → Ends held deed
      → IsDone deed held new.files status old new.taken
  is_done held deed done = ((done.status_is, done.taken_is), done.files_are)

  pub makes : (held : Option Files) (order : CoinWords)
      → IfSome (coin_on held ledger order)
      (λ effect. Done status effect (outside (stores held ledger) old) new)
      → MakesChallenge order held new.files status old new.taken
  makes held (Part order) done = is_done held (part_deed order) done
  makes None (Join names) done = tt
  makes (Some files) (Join names) done =
      joins_too files names (join_deed names files) _ status
      (is_done (Some files) (join_deed names files) done) done.status_is
      (joins_exactly files names)
  makes None (Board names) done = tt
  makes (Some files) (Board names) done =
      derives_too files names (board_deed names files) _ status
      (is_done (Some files) (board_deed names files) done) done.status_is
      (derives_exactly files names)
