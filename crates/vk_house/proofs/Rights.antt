-- What is kept is an auction, and stands under its own id.
use Rattle.std.proofs.Common.{◌≡◌, ℕ, ◌<◌, ◌≤◌, ◌^◌, ◌==◌, true, List, length, Option, None, IfSome, refl, sym, subst, arith, rules}
use Rattle.std.specs.Bool.{then_some}
use Rattle.std.specs.FinMap.{empty, get, get-empty}
use Rattle.std.proofs.lemmas.Bool.Decides.{Decides-eqb, nat_tests}
use Rattle.std.proofs.lemmas.Grind.{common_steps}
use Rattle.std.proofs.lemmas.List.Elements.{All-nil}
use Rattle.vk_residue.specs.Limits.{IsSize}
use Rattle.vk_commit.specs.Values.{AreBytes}
use Rattle.vk_keeper.specs.declared.auction.Auction.{Auction}
use Rattle.vk_keeper.specs.declared.auction.Phase.TheVariants.{Taking, Proved, Answered}
use Rattle.vk_keeper.specs.Auctions.{IsAuction, IsSealRow, IsTerms}
use Rattle.vk_keeper.specs.Ledgers.{Ledger, IsKeptUnder, IsLedger}
use Rattle.vk_keeper.proofs.Firsts.{first_terms}
use Rattle.vk_keeper.proofs.Joins.{may_join}
use Rattle.vk_keeper.proofs.Rows.{in_phase as right_in_phase}
use Rattle.vk_house.specs.declared.errors.HouseErr.TheVariants.{NoSeals}
use Rattle.vk_house.specs.Commands.{HouseCommand, id_of, IsHouseCommand}
use Rattle.vk_house.specs.Replies.{HouseReply, new_auction}
use Rattle.vk_house.specs.Steps.{in_phase, HouseCall}
use Rattle.vk_house.proofs.Passing.{test_passed}
use Rattle.vk_house.proofs.Stepping.{OfChanges, call_each, value_each}

begun_right : (version : ℕ) (id : List ℕ) (width lanes reserve : ℕ)
    → AreBytes 16 id → IsSize width lanes → IsTerms version width reserve
    → IsAuction (new_auction version id width lanes reserve)
begun_right version id width lanes reserve bytes room terms = record {
  held = record {
    id = bytes;
    size = room;
    few_seals = omega arith;
    rows = All-nil (IsSealRow id width lanes);
    seats = search (rules, common_steps);
    some_seal = tt;
    seed = tt;
    challenge = tt;
    bits = tt;
  };
  terms = terms;
}

-- the terms with a reserve
second_terms : (width reserve : ℕ) → reserve < 2 ^ width → IsTerms 2 width reserve
second_terms width reserve small =
    record {
      least = omega arith;
      most = omega arith;
      small = small;
      unnamed = λ other. absurd (other refl);
    }

-- at least one seal
some_held : (count : ℕ) → then_some (count == 0) NoSeals ≡ None → 1 ≤ count
some_held count none = grind (arith, nat_tests)

same_number : (m n : ℕ) → (m == n) ≡ true → m ≡ n
same_number m n test = (Decides-eqb m n).0 test

-- what a command that the house may be asked leaves under its id
abbrev StaysRight : HouseCommand → Option Auction → Option Auction → Type 0
StaysRight command found later = IsHouseCommand command → IfSome found (IsKeptUnder (id_of command))
    → IfSome later (IsKeptUnder (id_of command))

of_right : OfChanges StaysRight
of_right = record {
  same = λ command found asks right. right;
  opens = λ id width lanes asks right. record {
    own = refl;
    right = begun_right 1 id width lanes 0 asks.0 asks.1 (first_terms width);
  };
  reserves = λ id width lanes reserve asks right. record {
    own = refl;
    right = begun_right 2 id width lanes reserve asks.0 asks.1 (second_terms width reserve asks.2);
  };
  joins = λ id seal secret held joins asks is. record {
    own = is.own;
    right = may_join (in_phase held Taking) (record { seal = seal; secret = secret }) is.right
        asks.1 asks.2 joins;
  };
  proves = λ id seed held some none_dry asks is. record {
    own = is.own;
    right = right_in_phase (in_phase held Taking) (Proved seed) is.right
        (some_held (length held.seals) some) asks.1 tt tt;
  };
  answers = λ id seed challenge held each asks is. record {
    own = is.own;
    right = right_in_phase (in_phase held (Proved seed)) (Answered seed challenge) is.right
        is.right.held.some_seal is.right.held.seed asks.1
        (same_number (length challenge.bits) held.lanes
        (test_passed (length challenge.bits == held.lanes) _ each));
  };
}

pub no_auctions : IsLedger empty
no_auctions id = subst (λ found. IfSome found (IsKeptUnder id)) (sym (get-empty _ id)) tt

pub call_right : (old new : Ledger) (command : HouseCommand) (reply : HouseReply)
    → HouseCall old command reply new → IsHouseCommand command → IsLedger old → IsLedger new
call_right old new command reply call asks right id =
    call_each (λ i before after. IfSome before (IsKeptUnder i) → IfSome after (IsKeptUnder i)) old
    new command reply (λ i found it. it)
    (value_each StaysRight of_right command (get old (id_of command)) asks) call id (right id)
