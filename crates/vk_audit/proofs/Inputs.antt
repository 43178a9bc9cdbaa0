-- Of inputs that are read one after another, the first that can't be read.
use Rattle.std.proofs.Common.{◌≡◌, ℕ, ◌^◌, nat_lt, Bool, true, false, if◌then◌else◌, List, [], ◌∷◌, ◌++◌, length, map, Option, Some, None, Result, Ok, Err, inl, inr, refl, ap, sym, ◌∙◌, subst, arith, append_assoc}
use Rattle.std.specs.Prelude.{◌⊎◌}
use Rattle.std.specs.List.{AllByRecursion}
use Rattle.std.specs.FinMap.{get}
use Rattle.std.proofs.lemmas.Bool.Decides.{nat_tests}
use Rattle.std.proofs.lemmas.Option.{same_Some}
use Rattle.vk_residue.specs.Steps.{◌>>=◌}
use Rattle.vk_io.specs.Files.{Files}
use Rattle.vk_lines.specs.Lines.{Rest}
use Rattle.vk_judge.specs.declared.answers.Part.{Part}
use Rattle.vk_judge.specs.declared.answers.VErr.{VErr}
use Rattle.vk_judge.specs.declared.answers.VErr.TheVariants.{Missing, TooLong}
use Rattle.vk_judge.specs.Begun.{begun_file, from_start}
use Rattle.vk_judge.proofs.HeldFiles.{not_long}
use Rattle.vk_audit.specs.Inputs.{CanBeRead, IsFirstUnread, IsLong, IsUnheld}

-- ---- names

never_empty : (earlier later : List (List ℕ)) (name : List ℕ)
    → ◌≡◌ {A = List (List ℕ)} [] (earlier ++ name ∷ later) → ⊥
never_empty [] later name is = cc
never_empty (first ∷ earlier) later name is = cc

module _ (files : Files) (Reason : Files → List ℕ → Type 0) where
  -- more names behind them change nothing
  pub with_more : (names others : List (List ℕ)) (name : List ℕ)
      → IsFirstUnread files names name Reason → IsFirstUnread files (names ++ others) name Reason
  with_more names others name is = record {
    earlier = is.earlier;
    later = is.later ++ others;
    names_are = ap (λ all. all ++ others) is.names_are
        ∙ append_assoc is.earlier (name ∷ is.later) others;
    read = is.read;
    why = is.why;
  }

  -- it is one of these, or the last, behind names that can be read
  abbrev IsOneOrLast : List (List ℕ) → List ℕ → List ℕ → Type 0
  IsOneOrLast names last name = IsFirstUnread files names name Reason
      ⊎ (AllByRecursion (CanBeRead files) names × Reason files name × (name ≡ last))

  behind : (first : List ℕ) (names : List (List ℕ)) (last name : List ℕ) → CanBeRead files first
      → IsOneOrLast names last name
      → IsOneOrLast (first ∷ names) last name
  behind first names last name can (inl is) =
      inl (record {
        earlier = first ∷ is.earlier;
        later = is.later;
        names_are = ap (λ all. first ∷ all) is.names_are;
        read = (can, is.read);
        why = is.why;
      })
  behind first names last name can (inr is) = inr ((can, is.0), is.1, is.2)

  by_place : (names : List (List ℕ)) (last name : List ℕ) (earlier later : List (List ℕ))
      → names ++ last ∷ [] ≡ earlier ++ name ∷ later
      → AllByRecursion (CanBeRead files) earlier → Reason files name → IsOneOrLast names last name
  by_place [] last name [] later are read why = let same : last ≡ name = cc in
      inr (tt, why, sym same)
  by_place [] last name (first ∷ earlier) later are read why =
      let none : ◌≡◌ {A = List (List ℕ)} [] (earlier ++ name ∷ later) = cc in
      absurd (never_empty earlier later name none)
  by_place (first ∷ names) last name [] later are read why =
      let same : first ≡ name = cc in
      inl (record {
        earlier = [];
        later = names;
        names_are = ap (λ n. n ∷ names) same;
        read = tt;
        why = why;
      })
  by_place (first ∷ names) last name (other ∷ earlier) later are read why =
      let same : first ≡ other = cc in
      let rest : names ++ last ∷ [] ≡ earlier ++ name ∷ later = cc in
      behind first names last name (subst (CanBeRead files) (sym same) read.0)
      (by_place names last name earlier later rest read.1 why)

  pub one_or_last : (names : List (List ℕ)) (last name : List ℕ)
      → IsFirstUnread files (names ++ last ∷ []) name Reason → IsOneOrLast names last name
  one_or_last names last name is =
      by_place names last name is.earlier is.later is.names_are is.read is.why

-- ---- parts

pub never_none : {A : Type 0} (x : A) → ◌≡◌ {A = Option A} None (Some x) → ⊥
never_none x is = cc

-- why a part can't be read, by whether its file is too long
abbrev pub Why : Bool → Files → List ℕ → Type 0
Why true = IsLong
Why false = IsUnheld

abbrev pub fault_of : Part × Bool → VErr
fault_of (part, true) = TooLong part
fault_of (part, false) = Missing part

-- which part can't be read, and whether its file is too long
abbrev pub of_told : Part → Option (List ℕ) → Option (Part × Bool) → Option (Part × Bool)
of_told part None later = Some (part, false)
of_told part (Some bytes) later = if nat_lt (2 ^ 30) (length bytes) then Some (part, true)
    else later

module _ {X : Type 0} (part : Part) (later : Option (Part × Bool)) (next : Rest → Result X VErr) (unread : Part × Bool)
    (goes_on : (rest : Rest) → later ≡ Some unread → next rest ≡ Err (fault_of unread)) where
  begun_by : (bytes : List ℕ) (long : Bool)
      → (if long then Some (part, true) else later) ≡ Some unread
      → ((if long then Err (TooLong part) else Ok (from_start bytes)) >>= next)
      ≡ Err (fault_of unread)
  begun_by bytes true is = ap (λ u. Err (fault_of u)) (same_Some (part, true) unread is)
  begun_by bytes false is = goes_on (from_start bytes) is

  -- what begins with the part answers that fault
  pub begun_unread : (told : Option (List ℕ)) → of_told part told later ≡ Some unread
      → (begun_file part told >>= next) ≡ Err (fault_of unread)
  begun_unread None is = ap (λ u. Err (fault_of u)) (same_Some (part, false) unread is)
  begun_unread (Some bytes) is = begun_by bytes (nat_lt (2 ^ 30) (length bytes)) is

module _ (files : Files) (name : Part → List ℕ) where
  -- of these parts, the first that can't be read
  abbrev pub first_unread : List Part → Option (Part × Bool)
  first_unread [] = None
  first_unread (part ∷ parts) = of_told part (get files (name part)) (first_unread parts)

  abbrev pub IsUnread : List Part → Part × Bool → Type 0
  IsUnread parts unread = IsFirstUnread files (map name parts) (name unread.0) (Why unread.1)

  begins : (part : Part) (parts : List Part) (long : Bool) → Why long files (name part)
      → IsUnread (part ∷ parts) (part, long)
  begins part parts long why =
      record { earlier = []; later = map name parts; names_are = refl; read = tt; why = why }

  after : (part : Part) (parts : List Part) (unread : Part × Bool) → CanBeRead files (name part)
      → IsUnread parts unread → IsUnread (part ∷ parts) unread
  after part parts unread can is =
      record {
        earlier = name part ∷ is.earlier;
        later = is.later;
        names_are = ap (λ all. name part ∷ all) is.names_are;
        read = (can, is.read);
        why =
            is.why;
      }

  by_length : (part : Part) (parts : List Part) (unread : Part × Bool)
      → (first_unread parts ≡ Some unread → IsUnread parts unread)
      → (bytes : List ℕ) → get files (name part) ≡ Some bytes → (long : Bool)
      → nat_lt (2 ^ 30) (length bytes) ≡ long
      → (if long then Some (part, true) else first_unread parts) ≡ Some unread
      → IsUnread (part ∷ parts) unread
  by_length part parts unread later bytes held true test is =
      subst (IsUnread (part ∷ parts)) (same_Some (part, true) unread is)
      (begins part parts true (bytes, held, grind (arith, nat_tests, test)))
  by_length part parts unread later bytes held false test is =
      after part parts unread (bytes, record { is = held; short = grind (arith, nat_tests, test) })
      (later is)

  by_told : (part : Part) (parts : List Part) (unread : Part × Bool)
      → (first_unread parts ≡ Some unread → IsUnread parts unread)
      → (told : Option (List ℕ)) → get files (name part) ≡ told
      → of_told part told (first_unread parts) ≡ Some unread → IsUnread (part ∷ parts) unread
  by_told part parts unread later None held is =
      subst (IsUnread (part ∷ parts)) (same_Some (part, false) unread is)
      (begins part parts false held)
  by_told part parts unread later (Some bytes) held is =
      by_length part parts unread later bytes held (nat_lt (2 ^ 30) (length bytes)) refl is

  -- the one that is found is the first
  pub unread_shown : (parts : List Part) (unread : Part × Bool) → first_unread parts ≡ Some unread
      → IsUnread parts unread
  unread_shown [] unread is = cc
  unread_shown (part ∷ parts) unread is =
      by_told part parts unread (unread_shown parts unread) (get files (name part)) refl is

  read_by : (part : Part) (later : Option (Part × Bool)) (bytes : List ℕ)
      → get files (name part) ≡ Some bytes → (long : Bool)
      → nat_lt (2 ^ 30) (length bytes) ≡ long
      → (if long then Some (part, true) else later) ≡ None → CanBeRead files (name part)
      × (later ≡ None)
  read_by part later bytes held true test is = cc
  read_by part later bytes held false test is =
      ((bytes, record { is = held; short = grind (arith, nat_tests, test) }), is)

  read_told : (part : Part) (later : Option (Part × Bool)) (told : Option (List ℕ))
      → get files (name part) ≡ told → of_told part told later ≡ None
      → CanBeRead files (name part) × (later ≡ None)
  read_told part later None held is = cc
  read_told part later (Some bytes) held is =
      read_by part later bytes held (nat_lt (2 ^ 30) (length bytes)) refl is

  -- where none is found, all can be read
  pub all_read : (parts : List Part) → first_unread parts ≡ None
      → AllByRecursion (CanBeRead files) (map name parts)
  all_read [] is = tt
  all_read (part ∷ parts) is =
      let read = read_told part (first_unread parts) (get files (name part)) refl is in
      (read.0, all_read parts read.1)

  stops : (part : Part) (later : Option (Part × Bool)) (long : Bool) → Why long files (name part)
      → of_told part (get files (name part)) later ≡ Some (part, long)
  stops part later false none = ap (λ told. of_told part told later) none
  stops part later true (bytes, held, long) =
      let test : nat_lt (2 ^ 30) (length bytes) ≡ true = grind (arith, nat_tests, long) in
      ap (λ told. of_told part told later) held
      ∙ ap (λ (t : Bool). if t then Some (part, true) else later) test

  passes : (part : Part) (later : Option (Part × Bool)) → CanBeRead files (name part)
      → of_told part (get files (name part)) later ≡ later
  passes part later (bytes, is) =
      ap (λ told. of_told part told later) is.is
      ∙ ap (λ (t : Bool). if t then Some (part, true) else later) (not_long bytes is.short)

  found_at : (parts : List Part) (earlier later : List (List ℕ)) (first : List ℕ) (long : Bool)
      → map name parts ≡ earlier ++ first ∷ later
      → AllByRecursion (CanBeRead files) earlier → Why long files first
      → (part : Part) × (first_unread parts ≡ Some (part, long)) × (name part ≡ first)
  found_at [] earlier later first long are read why = absurd (never_empty earlier later first are)
  found_at (part ∷ parts) [] later first long are read why =
      let same : name part ≡ first = cc in
      (part, stops part (first_unread parts) long (subst (Why long files) (sym same) why), same)
  found_at (part ∷ parts) (other ∷ earlier) later first long are read why =
      let same : name part ≡ other = cc in
      let rest : map name parts ≡ earlier ++ first ∷ later = cc in
      let next = found_at parts earlier later first long rest read.1 why in (
        next.0,
        passes part (first_unread parts) (subst (CanBeRead files) (sym same) read.0)
            ∙ next.1,
        next.2,
      )

  -- the first one is found, under its name
  pub unread_found : (parts : List Part) (first : List ℕ) (long : Bool)
      → IsFirstUnread files (map name parts) first (Why long)
      → (part : Part) × (first_unread parts ≡ Some (part, long)) × (name part ≡ first)
  unread_found parts first long is =
      found_at parts is.earlier is.later first long is.names_are is.read is.why

-- an answer names the first of these parts whose file can't be read, and why
abbrev pub NamesUnread : {X : Type 0} → Files → (Part → List ℕ) → List Part → Result X VErr
    → Type 0
NamesUnread files name parts answer =
    (unread : Part × Bool) → first_unread files name parts ≡ Some unread
    → answer ≡ Err (fault_of unread)
