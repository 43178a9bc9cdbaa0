-- A ceremony that ended, or was stopped, is acts of the house.
use Rattle.std.proofs.Common.{◌≡◌, ℕ, zero, List, [], ◌∷◌, ◌++◌, map, Option, Some, None, IfSome, Result, Ok, Err, refl, sym, ap, subst, ◌∙◌, inl, inr}
use Rattle.std.specs.Prelude.{IsSomeAnd, option_map}
use Rattle.std.specs.List.{flat_map}
use Rattle.vk_io.specs.Files.{Files, Modelled}
use Rattle.vk_io.specs.Writing.{written, IsDivided}
use Rattle.vk_io.specs.declared.errors.OutsideErr.{OutsideErr}
use Rattle.vk_keeper.specs.Ledgers.{Ledger}
use Rattle.vk_effect.specs.Effects.{Effect, Outside, done, outside, puts, said_of, stores}
use Rattle.vk_effect.specs.Ends.{Ends, Stopped}
use Rattle.vk_effect.specs.Sequences.{StopsAmong, StopsClosing, done_all}
use Rattle.vk_effect.proofs.Sequences.{are_one}
use Rattle.vk_words.specs.Orders.{HouseWords}
use Rattle.vk_auctioneer.specs.Effects.{house_effect}
use Rattle.vk_ceremony.specs.Acts.{AreActs, GoOn, HouseAct, IsAct, Performs, PerformsAll, PerformsSome}
use Rattle.vk_ceremony.specs.Ceremonies.{Ceremony, EndsAll, ceremony_on}
use Rattle.vk_ceremony.specs.Runs.{asked_in, orders_in}
use Rattle.vk_ceremony.proofs.Following.{Follow, ceremony_follows, ledger_by, ledger_left, order_reaches, order_told, told_each}

-- what is done by an effect
abbrev pub act_of : HouseWords → Files → Ledger → Effect → HouseAct
act_of order files ledger effect = record {
  order = order;
  files = files;
  ledger = ledger;
  said = said_of effect;
  left = written effect.writes files;
  kept = ledger_by (asked_in files order) ledger;
}

-- it is an act, where the order has that effect, which leaves the ledger that the act keeps
abbrev act_is : (order : HouseWords) (files : Files) (ledger : Ledger) (effect : Effect)
    → let act = act_of order files ledger effect in
    house_effect (Some files) (Some ledger) order ≡ Some effect → effect.ledger ≡ Some act.kept
    → IsAct act
act_is order files ledger effect is kept =
    record { effect = effect; effect_is = is; said_is = refl; left_is = refl; kept_is = kept }

-- ---- all of them were done

-- these files and this ledger are outside
record Holds (now : Outside) (files : Files) (ledger : Ledger) : Type 0 where
  held : now.files ≡ Some files
  kept : now.ledger ≡ Some ledger

-- the acts of effects: what is left by them is left by the effects
record Reached (orders : List HouseWords) (files : Files) (ledger : Ledger) (effects : List Effect)
    (closing : List ℕ) (now : Outside) : Type 0 where
  acts : List HouseAct
  later : List HouseWords
  orders_are : orders ≡ map (λ act. act.order) acts ++ later
  files_left : Files
  ledger_left : Ledger
  done : AreActs acts files ledger files_left ledger_left
  holds : Holds (done_all effects closing now) files_left ledger_left
  texts : flat_map (λ (act : HouseAct). act.said.text) acts
      ≡ flat_map (λ (effect : Effect). effect.text) effects

abbrev none_reached : (orders : List HouseWords) (files : Files) (ledger : Ledger)
    (closing : List ℕ) (now : Outside) → Holds now files ledger
    → Reached orders files ledger [] closing now
none_reached orders files ledger closing now holds = record {
  acts = [];
  later = orders;
  orders_are = refl;
  files_left = files;
  ledger_left = ledger;
  done = (refl, refl);
  holds = record { held = holds.held; kept = holds.kept };
  texts = refl;
}

-- nothing more was left after these acts
left_so : (orders later : List HouseWords) (files : Files) (ledger : Ledger) (acts : List HouseAct)
    (left : Files) (kept : Ledger) → orders ≡ map (λ act. act.order) acts ++ later
    → AreActs acts files ledger left kept → Performs orders files ledger acts None left kept
left_so orders later files ledger acts left kept orders_are done = record {
  later = later;
  orders_are = orders_are;
  files_between = left;
  ledger_between = kept;
  done = done;
  last = (refl, refl);
}

-- no order was done
none_done : (orders : List HouseWords) (files : Files) (ledger : Ledger) (new : Outside)
    → Holds new files ledger → PerformsSome orders files ledger new.files new.ledger
none_done orders files ledger new holds = record {
  acts = [];
  stop = None;
  files_left = files;
  ledger_left = ledger;
  held_is = holds.held;
  kept_is = holds.kept;
  performs = left_so orders orders files ledger [] files ledger refl (refl, refl);
}

divided_all : (writes : List (List ℕ × List ℕ)) (files : Files)
    → IsDivided writes files (written writes files)
divided_all [] files = refl
divided_all (text ∷ writes) files = inr (divided_all writes _)

found_of : {X : Type 0} (P : X → Type 0) (found : Option X) → IsSomeAnd found P
    → (x : X) × (found ≡ Some x) × P x
found_of P None is = absurd is
found_of P (Some x) is = (x, refl, is)

-- ---- the first order, by its effect

module _ (order : HouseWords) (files : Files) (ledger : Ledger) (effect : Effect)
    (is : house_effect (Some files) (Some ledger) order ≡ Some effect) where
  abbrev act : HouseAct
  act = act_of order files ledger effect

  kept_by_effect : effect.ledger ≡ Some act.kept
  kept_by_effect =
      ledger_left (asked_in files order) ledger effect
      (order_reaches files ledger order effect is)

  abbrev is_act : IsAct act
  is_act = act_is order files ledger effect is kept_by_effect

  holds_after : (now : Outside) → Holds now files ledger → Holds (done effect now) act.left act.kept
  holds_after now holds = record {
    held = ap (option_map (written effect.writes)) holds.held;
    kept = kept_by_effect;
  }

  abbrev first_reached : (orders : List HouseWords) (effects : List Effect) (closing : List ℕ)
      (now : Outside) → Reached orders act.left act.kept effects closing (done effect now)
      → Reached (order ∷ orders) files ledger (effect ∷ effects) closing now
  first_reached orders effects closing now more = record {
    acts = act ∷ more.acts;
    later = more.later;
    orders_are = ap (λ others. order ∷ others) more.orders_are;
    files_left = more.files_left;
    ledger_left = more.ledger_left;
    done = (refl, refl, is_act, more.done);
    holds = more.holds;
    texts = ap (λ text. effect.text ++ text) more.texts;
  }

  -- it was stopped
  first_stopped : (orders : List HouseWords) (left : Files) (new : Outside)
      → new.files ≡ Some left → new.ledger ≡ effect.ledger → IsDivided effect.writes files left
      → PerformsSome (order ∷ orders) files ledger new.files new.ledger
  first_stopped orders left new held_is ledger_is divided = record {
    acts = [];
    stop = Some act;
    files_left = left;
    ledger_left = act.kept;
    held_is = held_is;
    kept_is = ledger_is ∙ kept_by_effect;
    performs = record {
      later = order ∷ orders;
      orders_are = refl;
      files_between = files;
      ledger_between = ledger;
      done = (refl, refl);
      last = record {
        others = orders;
        orders_are = refl;
        files_are = refl;
        ledger_is = refl;
        is = is_act;
        left_is = divided;
        kept_is = refl;
      };
    };
  }

  -- it was done
  first_done : (orders : List HouseWords) (held : Option Files) (kept : Option Ledger)
      → PerformsSome orders act.left act.kept held kept
      → PerformsSome (order ∷ orders) files ledger held kept
  first_done orders held kept more = record {
    acts = act ∷ more.acts;
    stop = more.stop;
    files_left = more.files_left;
    ledger_left = more.ledger_left;
    held_is = more.held_is;
    kept_is = more.kept_is;
    performs = record {
      later = more.performs.later;
      orders_are = ap (λ others. order ∷ others) more.performs.orders_are;
      files_between = more.performs.files_between;
      ledger_between = more.performs.ledger_between;
      done = (refl, refl, is_act, more.performs.done);
      last = more.performs.last;
    };
  }

  order_stopped : (orders : List HouseWords) (now new : Outside) → Holds now files ledger
      → Stopped effect now new
      → PerformsSome (order ∷ orders) files ledger new.files new.ledger
  order_stopped orders now new holds (inl same) =
      none_done (order ∷ orders) files ledger new
      (subst (λ left. Holds left files ledger) (sym same) holds)
  order_stopped orders now new holds (inr (ledger_is, inl writing)) =
      let left = found_of (IsDivided effect.writes files) new.files
      (subst (λ held. Modelled (IsDivided effect.writes) held new.files) holds.held
      writing.files_are) in
      first_stopped orders left.0 new left.1 ledger_is left.2
  order_stopped orders now new holds (inr (ledger_is, inr printing)) =
      first_stopped orders (written effect.writes files) new
      (printing.files_are ∙ ap (option_map (written effect.writes)) holds.held) ledger_is
      (divided_all effect.writes files)

-- ---- all of them were done

-- and they go on to the last order, or to one that no order follows
abbrev AllReached : List HouseWords → Files → Ledger → List Effect → List ℕ → Outside → Type 0
AllReached orders files ledger effects closing now =
    (reached : Reached orders files ledger effects closing now) × GoOn reached.acts reached.later

all_reached : (orders : List HouseWords) (files : Files) (ledger : Ledger) (effects : List Effect)
    (closing : List ℕ) (now : Outside) → Holds now files ledger → Follow orders files ledger effects
    → AllReached orders files ledger effects closing now
all_reached orders files ledger [] closing now holds none =
    (none_reached orders files ledger closing now holds, none)
all_reached [] files ledger (effect ∷ effects) closing now holds follows = absurd follows
all_reached (order ∷ orders) files ledger (effect ∷ effects) closing now holds
    (is, inl (on, follows)) =
    let act = act_of order files ledger effect in
    let more = all_reached orders act.left act.kept effects closing (done effect now)
    (holds_after order files ledger effect is now holds) follows in
    (first_reached order files ledger effect is orders effects closing now more.0, inl (on, more.1))
all_reached (order ∷ orders) files ledger (effect ∷ effects) closing now holds
    (is, inr (ends, none)) =
    let act = act_of order files ledger effect in
    let more = none_reached orders act.left act.kept closing (done effect now)
    (holds_after order files ledger effect is now holds) in
    subst (λ others. AllReached (order ∷ orders) files ledger (effect ∷ others) closing now)
    (sym none)
    (first_reached order files ledger effect is orders [] closing now more, inr (ends, refl))

outside_holds : (files : Files) (ledger : Ledger) (taken : Option (List ℕ))
    → Holds (outside (stores (Some files) (Some ledger)) taken) files ledger
outside_holds files ledger taken = record { held = refl; kept = refl }

all_performed : (orders : List HouseWords) (files : Files) (ledger : Ledger) (effects : List Effect)
    (closing : List ℕ) (taken : Option (List ℕ)) (new : Outside)
    → Follow orders files ledger effects
    → new ≡ done_all effects closing (outside (stores (Some files) (Some ledger)) taken)
    → PerformsAll orders files ledger closing taken new
all_performed orders files ledger effects closing taken new follows is =
    let old : Outside = outside (stores (Some files) (Some ledger)) taken in
    let all = all_reached orders files ledger effects closing old (outside_holds files ledger taken)
    follows in
    let reached = all.0 in
    record {
      acts = reached.acts;
      later = reached.later;
      orders_are = reached.orders_are;
      followed = all.1;
      files_left = reached.files_left;
      ledger_left = reached.ledger_left;
      done = reached.done;
      held_is = ap (λ (left : Outside). left.files) is ∙ reached.holds.held;
      kept_is = ap (λ (left : Outside). left.ledger) is ∙ reached.holds.kept;
      printed = ap (λ (left : Outside). left.taken) (is ∙ are_one zero effects closing old)
          ∙ ap (λ texts. puts (texts ++ closing) taken) (sym reached.texts);
    }

-- ---- some of them were

all_some : (orders : List HouseWords) (files : Files) (ledger : Ledger) (closing : List ℕ)
    (taken : Option (List ℕ)) (new : Outside) → PerformsAll orders files ledger closing taken new
    → PerformsSome orders files ledger new.files new.ledger
all_some orders files ledger closing taken new all = record {
  acts = all.acts;
  stop = None;
  files_left = all.files_left;
  ledger_left = all.ledger_left;
  held_is = all.held_is;
  kept_is = all.kept_is;
  performs =
      left_so orders all.later files ledger all.acts all.files_left all.ledger_left all.orders_are
      all.done;
}

-- the closing text was
closing_stopped : (orders : List HouseWords) (files : Files) (ledger : Ledger) (closing : List ℕ)
    (now new : Outside) → Holds now files ledger → StopsClosing closing now new
    → PerformsSome orders files ledger new.files new.ledger
closing_stopped orders files ledger closing now new holds stops =
    none_done orders files ledger new
    (record { held = stops.files_are ∙ holds.held; kept = stops.ledger_is ∙ holds.kept })

orders_stopped : (orders : List HouseWords) (files : Files) (ledger : Ledger)
    (effects : List Effect) (closing : List ℕ) (now new : Outside) → Holds now files ledger
    → Follow orders files ledger effects → StopsAmong effects closing now new
    → PerformsSome orders files ledger new.files new.ledger
orders_stopped orders files ledger [] closing now new holds follows stops =
    closing_stopped orders files ledger closing now new holds stops
orders_stopped [] files ledger (effect ∷ effects) closing now new holds follows stops =
    absurd follows
orders_stopped (order ∷ orders) files ledger (effect ∷ effects) closing now new holds (is, follows)
    (inl stops) = order_stopped order files ledger effect is orders now new holds stops
orders_stopped (order ∷ orders) files ledger (effect ∷ effects) closing now new holds
    (is, inl (on, follows)) (inr stops) =
    let act = act_of order files ledger effect in
    first_done order files ledger effect is orders new.files new.ledger
    (orders_stopped orders act.left act.kept effects closing (done effect now) new
    (holds_after order files ledger effect is now holds) follows stops)
orders_stopped (order ∷ orders) files ledger (effect ∷ effects) closing now new holds
    (is, inr (ends, none)) (inr stops) =
    let act = act_of order files ledger effect in
    first_done order files ledger effect is orders new.files new.ledger
    (closing_stopped orders act.left act.kept closing (done effect now) new
    (holds_after order files ledger effect is now holds)
    (subst (λ others. StopsAmong others closing (done effect now) new) none stops))

-- ---- a ceremony

whole_performs : (orders : List HouseWords) (files : Files) (ledger : Ledger) (whole : Ceremony)
    (taken : Option (List ℕ)) (result : Result ℕ OutsideErr) (new : Outside)
    → Follow orders files ledger whole.commands
    → EndsAll result whole (outside (stores (Some files) (Some ledger)) taken) new
    → PerformsSome orders files ledger new.files new.ledger
whole_performs orders files ledger whole taken (Ok status) new follows ends =
    all_some orders files ledger whole.closing.text taken new
    (all_performed orders files ledger whole.commands whole.closing.text taken new follows
    ends.1)
whole_performs orders files ledger whole taken (Err stop) new follows ends =
    orders_stopped orders files ledger whole.commands whole.closing.text
    (outside (stores (Some files) (Some ledger)) taken) new (outside_holds files ledger taken)
    follows ends

-- what follows for each that is known follows for the one that is
told_then : {X : Type 0} {Q : Type 0} (P : X → Type 0) (found : Option X)
    → IsSomeAnd found (λ x. P x → Q) → IfSome found P → Q
told_then P None follows is = absurd follows
told_then P (Some x) follows is = follows is

-- however a ceremony ended, it is acts
pub ceremony_performs : (files : Files) (ledger : Ledger) (script : List ℕ)
    (taken : Option (List ℕ)) (result : Result ℕ OutsideErr) (new : Outside)
    → IfSome (ceremony_on (Some files) (Some ledger) script)
    (λ whole. EndsAll result whole (outside (stores (Some files) (Some ledger)) taken) new)
    → PerformsSome (orders_in files script) files ledger new.files new.ledger
ceremony_performs files ledger script taken result new ends =
    let found = ceremony_on (Some files) (Some ledger) script in
    let P : Ceremony → Type 0 =
    λ whole. EndsAll result whole (outside (stores (Some files) (Some ledger)) taken) new in
    told_then P found
    (told_each (λ (whole : Ceremony). Follow (orders_in files script) files ledger whole.commands)
    (λ whole. P whole → PerformsSome (orders_in files script) files ledger new.files new.ledger)
    (λ whole. whole_performs (orders_in files script) files ledger whole taken result new) found
    (ceremony_follows files ledger script)) ends

-- one that came to its end is all of them
pub ceremony_performs_all : (files : Files) (ledger : Ledger) (script : List ℕ)
    (taken : Option (List ℕ)) (status : ℕ) (new : Outside)
    → IsSomeAnd (ceremony_on (Some files) (Some ledger) script)
    (λ whole. EndsAll (Ok status) whole (outside (stores (Some files) (Some ledger)) taken) new
    → PerformsAll (orders_in files script) files ledger whole.closing.text taken new)
ceremony_performs_all files ledger script taken status new =
    told_each (λ (whole : Ceremony). Follow (orders_in files script) files ledger whole.commands)
    (λ whole. EndsAll (Ok status) whole (outside (stores (Some files) (Some ledger)) taken) new
    → PerformsAll (orders_in files script) files ledger whole.closing.text taken new)
    (λ whole follows ends. all_performed (orders_in files script) files ledger whole.commands
    whole.closing.text taken new follows ends.1)
    (ceremony_on (Some files) (Some ledger) script) (ceremony_follows files ledger script)

-- ---- one command

effect_performs : (files : Files) (ledger : Ledger) (order : HouseWords) (effect : Effect)
    (taken : Option (List ℕ)) (result : Result ℕ OutsideErr) (new : Outside)
    → house_effect (Some files) (Some ledger) order ≡ Some effect
    → Ends result effect (outside (stores (Some files) (Some ledger)) taken) new
    → PerformsSome (order ∷ []) files ledger new.files new.ledger
effect_performs files ledger order effect taken (Ok status) new is ends =
    let act = act_of order files ledger effect in
    first_done order files ledger effect is [] new.files new.ledger
    (none_done [] act.left act.kept new
    (record {
      held = ends.files_are;
      kept = ends.ledger_is ∙ kept_by_effect order files ledger effect is;
    }))
effect_performs files ledger order effect taken (Err stop) new is ends =
    order_stopped order files ledger effect is []
    (outside (stores (Some files) (Some ledger)) taken) new (outside_holds files ledger taken) ends

-- however a command of the house ended, it is an act, or none that was done
pub command_performs : (files : Files) (ledger : Ledger) (order : HouseWords)
    (taken : Option (List ℕ)) (result : Result ℕ OutsideErr) (new : Outside)
    → IfSome (house_effect (Some files) (Some ledger) order)
    (λ effect. Ends result effect (outside (stores (Some files) (Some ledger)) taken) new)
    → PerformsSome (order ∷ []) files ledger new.files new.ledger
command_performs files ledger order taken result new ends =
    let told = order_told files ledger order in
    effect_performs files ledger order told.0 taken result new told.1
    (subst (λ found. IfSome found
    (λ effect. Ends result effect (outside (stores (Some files) (Some ledger)) taken) new))
    told.1 ends)
