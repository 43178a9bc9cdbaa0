use Rattle.std.proofs.Common.{ℕ, List, Option, IfSome, Ok, map, refl, string_bytes, inl, inr, rules}
use Rattle.vk_io.specs.Files.{Files}
use Rattle.vk_keeper.specs.Ledgers.{Ledger}
use Rattle.vk_effect.specs.Effects.{Outside, outside, stores}
use Rattle.vk_app.specs.Commands.{DoesWork, work_on}
use Rattle.vk_app.specs.Promises.{Audits, ClaimExtractIsComplete, ClaimExtractIsSound, ClaimHeadline, Claims, ExtractIsComplete, ExtractIsSound, Headline}
use Rattle.vk_app.proofs.Audited.{ended_audits, ended_claim_headline, ended_claims, ended_headline, told_of}
use Rattle.vk_app.proofs.Freely.{sampled_done, sampled_stopped}
use Rattle.vk_app.proofs.Kept.{neither, told_ceremony, told_coin, told_house, told_seal, told_usage, unended_house}
use Rattle.vk_app.proofs.Sound.{ended_claim_complete, ended_claim_sound, ended_complete, ended_sound}
use Rattle.vk_app.proofs.command.run.Given.{Over}
use Rattle.vk_app.proofs.command.run.Goals.{In-Ok}
use Rattle.vk_app.proofs.command.run.Goals as goal

-- what follows from how the work ended
by_end : {P : Option Files → Option Ledger → List (List ℕ) → ℕ → Option (List ℕ) → Outside → Type 0}
    (g : Over) (c : In-Ok g)
    → ((held : Option Files) (ledger : Option Ledger) (words : List (List ℕ)) (status : ℕ)
    (old : Option (List ℕ)) (new : Outside)
    → IfSome (work_on held ledger words)
    (λ work. DoesWork status work (outside (stores held ledger) old) new)
    → P held ledger words status old new)
    → P (g.S.Shelf.held c.args.shelf.now) (g.K.Keeper.ledger c.args.keeper.now)
    (map string_bytes c.args.words.now) c.in-Ok.status (g.W.Sink.taken c.args.out.now)
    (outside (stores (g.S.Shelf.held c.perform.new.shelf) (g.K.Keeper.ledger c.perform.new.keeper))
    (g.W.Sink.taken c.perform.new.out))
by_end g c follows = follows _ _ _ _ _ _ c.in-Ok.ensures.ends

pub returns-in-Ok : goal.returns-in-Ok
returns-in-Ok g c =
    let at = (goal.at.returns-in-Ok g c).In-Ok in
    let end = c.in-Ok.ensures.end in
    record {
      done = search rules;
      stopped = search rules;
      sound = by_end g at (told_of ExtractIsSound ended_sound);
      complete = by_end g at (told_of ExtractIsComplete ended_complete);
      headline = by_end g at (told_of Headline ended_headline);
      audits = by_end g at (told_of Audits ended_audits);
      claim_sound = by_end g at (told_of ClaimExtractIsSound ended_claim_sound);
      claim_complete = by_end g at (told_of ClaimExtractIsComplete ended_claim_complete);
      claim_headline = by_end g at (told_of ClaimHeadline ended_claim_headline);
      claims = by_end g at (told_of Claims ended_claims);
      seals = by_end g at told_seal;
      matching = sampled_done _ _ _ _ c.in-Ok.ensures.free end.0 end.1;
      coins = by_end g at told_coin;
      house = by_end g at told_house c.in-Ok.ensures.free;
      ceremony = by_end g at told_ceremony;
      files = search rules;
      parts = λ is. neither _ c.in-Ok.status is end.0 end.1;
      usage = by_end g at told_usage c.in-Ok.ensures.usage;
      once = c.in-Ok.ensures.once;
      keeper = c.in-Ok.ensures.keeper;
      fault = search rules;
      no_fault = search rules;
    }

pub returns-in-Err-Failed-clause-house : goal.returns-in-Err-Failed-clause-house
returns-in-Err-Failed-clause-house g c =
    unended_house _ _ _ _ _ _ c.in-Err-Failed.field-0 (inl refl)
    (c.in-Err-Failed.ensures.ends, c.in-Err-Failed.ensures.free)

pub returns-in-Err-Failed-clause-matching : goal.returns-in-Err-Failed-clause-matching
returns-in-Err-Failed-clause-matching g c =
    sampled_stopped _ _ _ _ c.in-Err-Failed.field-0 c.in-Err-Failed.ensures.free (inl refl)

pub returns-in-Err-NoMemory-clause-matching : goal.returns-in-Err-NoMemory-clause-matching
returns-in-Err-NoMemory-clause-matching g c =
    sampled_stopped _ _ _ _ c.in-Err-NoMemory.field-0 c.in-Err-NoMemory.ensures.free (inr refl)

pub returns-in-Err-NoMemory-clause-house : goal.returns-in-Err-NoMemory-clause-house
returns-in-Err-NoMemory-clause-house g c =
    unended_house _ _ _ _ _ _ c.in-Err-NoMemory.field-0 (inr refl)
    (c.in-Err-NoMemory.ensures.ends, c.in-Err-NoMemory.ensures.free)
