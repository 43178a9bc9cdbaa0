-- How a `coin-join` ends, by what the named file is.
use Rattle.std.proofs.Common.{◌≡◌, ◌≢◌, ℕ, Option, Some, None, Result, Ok, Err, refl, ap, subst, ◌∙◌, arith}
use Rattle.std.specs.Prelude.{IfErr}
use Rattle.std.specs.Result.{result_err}
use Rattle.vk_io.specs.Files.{Files}
use Rattle.vk_words.specs.Coins.{ChallengeWords}
use Rattle.vk_effect.specs.Effects.{SaidValue, only_says}
use Rattle.vk_effect.proofs.NamedValues.{named_exactly, named_found, named_said, named_says}
use Rattle.vk_coin.specs.declared.coin.Coin.{Coin}
use Rattle.vk_coin.specs.Coins.{IsCoin, coin_text, unmet_part}
use Rattle.vk_coin.specs.Reading.{coin_at}
use Rattle.vk_coin.specs.Tables.{coin_table}
use Rattle.vk_coin.proofs.Faults.{coin_fault as fault_of_coin}
use Rattle.vk_coin.proofs.Forms.{coin_is_whole}
use Rattle.vk_coin.proofs.Unmet.{all_gives_none, first_is_found, found_is_first, none_opens_all}
use Rattle.vk_coins.specs.Joining.{coin_deed, coin_in, deed_by, join_deed, joined_if}
use Rattle.vk_coins.specs.Meaning.{HasJoint, HasUnmet, IsCoinFile, JoinsExactly, coin_fault}

-- the one fault of a file that isn't read
same_fault : (read : Result Coin SaidValue) (said : SaidValue) → result_err read ≡ Some said
    → read ≡ Err said
same_fault (Ok coin) said is = cc
same_fault (Err other) said is = cc

-- what is said of a file that is no coin has neither status
abbrev IsNeither : SaidValue → Type 0
IsNeither said = (said.status ≢ 0) × (said.status ≢ 1)

module _ (files : Files) (names : ChallengeWords) where
  found : (coin : Coin) → IsCoinFile files names.from coin → coin_in files names.from ≡ Ok coin
  found coin is = named_found IsCoin coin_text coin_at coin_is_whole files names.from coin is

  file_of : (coin : Coin) → coin_in files names.from ≡ Ok coin → IsCoinFile files names.from coin
  file_of coin is = (named_exactly IsCoin coin_text coin_at coin_is_whole files names.from coin).0
      is

  deed_of : (coin : Coin) (auditor : Option ℕ) → IsCoinFile files names.from coin
      → unmet_part coin ≡ auditor → join_deed names files ≡ joined_if names coin auditor
  deed_of coin auditor file is = ap (deed_by (coin_deed names)) (found coin file)
      ∙ ap (joined_if names coin) is

  unread_of : (said : SaidValue) → coin_fault files names.from ≡ Some said
      → join_deed names files ≡ only_says said
  unread_of said is =
      ap (deed_by (coin_deed names))
      (same_fault (coin_in files names.from) said
      (named_said coin_table coin_at fault_of_coin files names.from ∙ is))

  neither : (said : SaidValue) → coin_in files names.from ≡ Err said → IsNeither said
  neither said is =
      subst (λ read. IfErr read IsNeither) is
      (named_says IsNeither (λ name. (λ zero. omega (arith, zero), λ one. omega (arith, one)))
      (λ name. (λ zero. omega (arith, zero), λ one. omega (arith, one)))
      (λ name line. (λ zero. omega (arith, zero), λ one. omega (arith, one))) coin_at files
      names.from)

  -- ---- status 0

  joint_by : (coin : Coin) (auditor : Option ℕ) → IsCoinFile files names.from coin
      → unmet_part coin ≡ auditor → (joined_if names coin auditor).said.status ≡ 0
      → HasJoint files names.from coin
  joint_by coin None file is zero =
      record { file = file; opens = none_opens_all coin file.right is }
  joint_by coin (Some auditor) file is zero = absurd (omega (arith, zero))

  done_by : (read : Result Coin SaidValue) → coin_in files names.from ≡ read
      → (deed_by (coin_deed names) read).said.status ≡ 0
      → (coin : Coin) × HasJoint files names.from coin
  done_by (Ok coin) is zero = (coin, joint_by coin (unmet_part coin) (file_of coin is) refl zero)
  done_by (Err said) is zero = absurd ((neither said is).0 zero)

  -- ---- status 1

  unmet_by : (coin : Coin) (auditor : Option ℕ) → IsCoinFile files names.from coin
      → unmet_part coin ≡ auditor → (joined_if names coin auditor).said.status ≡ 1
      → (number : ℕ) × HasUnmet files names.from coin number
  unmet_by coin None file is one = absurd (omega (arith, one))
  unmet_by coin (Some auditor) file is one =
      (auditor, record { file = file; unmet = found_is_first coin auditor is })

  refused_by : (read : Result Coin SaidValue) → coin_in files names.from ≡ read
      → (deed_by (coin_deed names) read).said.status ≡ 1
      → (coin : Coin) × ((auditor : ℕ) × HasUnmet files names.from coin auditor)
  refused_by (Ok coin) is one = (coin, unmet_by coin (unmet_part coin) (file_of coin is) refl one)
  refused_by (Err said) is one = absurd ((neither said is).1 one)

pub joins_exactly : JoinsExactly
joins_exactly files names = record {
  joined = λ coin has. deed_of files names coin None has.file (all_gives_none coin has.opens);
  unmet = λ coin auditor has. deed_of files names coin (Some auditor) has.file
      (first_is_found coin auditor has.file.right has.unmet);
  unread = unread_of files names;
  done = done_by files names (coin_in files names.from) refl;
  refused = refused_by files names (coin_in files names.from) refl;
}
