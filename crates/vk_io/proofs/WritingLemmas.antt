-- Files that are modelled, over several calls.
use Rattle.std.proofs.Common.{◌≡◌, ℕ, ◌+◌, ◌<◌, ◌≤◌, List, [], ◌∷◌, ◌++◌, length, get_or, take, drop, Option, Some, None, Result, Ok, Err, inl, inr, refl, ap, sym, subst, ◌∙◌, arith, append-nil, length-append}
use Rattle.std.specs.List.{concat}
use Rattle.std.proofs.lemmas.List.{take-append-le, take_more, drop_more, take-append-drop}
use Rattle.std.proofs.lemmas.List.Folds.{concat-append}
use Rattle.std.proofs.Math.Seq.{take-append-add}
use Rattle.std.specs.Option.{unwrap_or}
use Rattle.std.specs.FinMap.{insert}
use Rattle.vk_io.specs.Files.{Files, bytes_of, Modelled, Appends}
use Rattle.vk_io.specs.Writing.{Writes, written, IsDivided, WritesAll}
use Rattle.vk_io.proofs.Finite.{get_own, insert_over}

-- two steps in a row, of content that is modelled or isn't
pub told_chain : {X : Type 0} (P Q R : X → X → Type 0) → ((x y z : X) → P x y → Q y z → R x z)
    → (a b c : Option X) → Modelled P a b → Modelled Q b c → Modelled R a c
told_chain P Q R join None b c p q = subst (λ o. Modelled Q o c) p q
told_chain P Q R join (Some x) None c p q = absurd p
told_chain P Q R join (Some x) (Some y) None p q = absurd q
told_chain P Q R join (Some x) (Some y) (Some z) p q = join x y z p q

-- a step that says less
pub told_weaker : {X : Type 0} (P Q : X → X → Type 0) → ((x y : X) → P x y → Q x y)
    → (a b : Option X) → Modelled P a b → Modelled Q a b
told_weaker P Q less None b p = p
told_weaker P Q less (Some x) None p = p
told_weaker P Q less (Some x) (Some y) p = less x y p

-- no step
pub told_same : {X : Type 0} (P : X → X → Type 0) → ((x : X) → P x x) → (a : Option X)
    → Modelled P a a
told_same P same None = refl
told_same P same (Some x) = same x

-- what `append` adds to a file that holds these bytes
grown_from : (name front piece : List ℕ) (old : Files)
    → insert (insert old name front) name (bytes_of (insert old name front) name ++ piece)
    ≡ insert old name (front ++ piece)
grown_from name front piece old =
    ap (λ o. insert (insert old name front) name (unwrap_or o [] ++ piece)) (get_own old name front)
    ∙ insert_over old name front (front ++ piece)

-- one more piece of a file that was created
pub piece_added : (E : Type 0) (name front piece : List ℕ) (done : Unit) (x y z : Files)
    → Writes {E = E} name front (Ok done) x y → Appends {E = E} name piece (Ok done) y z
    → Writes {E = E} name (front ++ piece) (Ok done) x z
piece_added E name front piece done x y z begun grown =
    grown ∙ ap (λ f. insert f name (bytes_of f name ++ piece)) begun ∙ grown_from name front piece x

-- the first bytes of a text are those before a piece and the first of the piece
front_of : (front piece rest : List ℕ) (k : ℕ) → k ≤ length piece
    → take (length front + k) (front ++ (piece ++ rest)) ≡ front ++ take k piece
front_of front piece rest k short = take-append-add front (piece ++ rest) k
    ∙ ap (λ t. front ++ t) (take-append-le k piece rest short)

within_whole : (front piece rest : List ℕ) (k : ℕ) → k ≤ length piece
    → length front + k ≤ length (front ++ (piece ++ rest))
within_whole front piece rest k short =
    omega (arith, length-append front (piece ++ rest), length-append piece rest)

-- a file whose pieces before this one were added, and then a part of this one, holds a part of the
-- text
pub part_refused : (E : Type 0) (name front piece rest : List ℕ) (refusal : E) (x y z : Files)
    → Writes {E = E} name front (Ok tt) x y → Appends {E = E} name piece (Err refusal) y z
    → Writes {E = E} name (front ++ (piece ++ rest)) (Err refusal) x z
part_refused E name front piece rest refusal x y z begun (inl same) =
    inr (
      length front + 0,
      within_whole front piece rest 0 (omega arith),
      same ∙ begun
          ∙ ap (insert x name) (sym (append-nil front)
          ∙ sym (front_of front piece rest 0 (omega arith))),
    )
part_refused E name front piece rest refusal x y z begun (inr grown) =
    inr (
      length front + grown.0,
      within_whole front piece rest grown.0 grown.1,
      grown.2 ∙ ap (λ f. insert f name (bytes_of f name ++ take grown.0 piece)) begun
          ∙ grown_from name front (take grown.0 piece) x
          ∙ ap (insert x name) (sym (front_of front piece rest grown.0 grown.1)),
    )

-- the same, where nothing of the piece was added
pub part_unbegun : (E : Type 0) (name front piece rest : List ℕ) (refusal : E) (x y : Files)
    → Writes {E = E} name front (Ok tt) x y
    → Writes {E = E} name (front ++ (piece ++ rest)) (Err refusal) x y
part_unbegun E name front piece rest refusal x y begun =
    part_refused E name front piece rest refusal x y y begun (inl refl)

-- ---- the text of a file by its pieces

pub concat_more : (pieces : List (List ℕ)) (i : ℕ) → i < length pieces
    → concat (take (i + 1) pieces) ≡ concat (take i pieces) ++ get_or pieces i []
concat_more pieces i within =
    ap concat (take_more pieces i [] within)
    ∙ concat-append (take i pieces) (get_or pieces i [] ∷ [])
    ∙ ap (λ t. concat (take i pieces) ++ t) (append-nil (get_or pieces i []))

pub concat_at : (pieces : List (List ℕ)) (i : ℕ) → i < length pieces
    → concat pieces ≡ concat (take i pieces) ++ (get_or pieces i [] ++ concat (drop (i + 1) pieces))
concat_at pieces i within =
    ap concat (sym (take-append-drop i pieces)) ∙ concat-append (take i pieces) (drop i pieces)
    ∙ ap (λ t. concat (take i pieces) ++ concat t) (drop_more pieces i [] within)

-- a first file that is written, and then the others
pub all_from_rest : {E : Type 0} (name text : List ℕ) (texts : List (List ℕ × List ℕ))
    (answer : Result Unit E) (done : Unit) (x y z : Files) → Writes {E = E} name text (Ok done) x y
    → WritesAll texts answer y z → WritesAll ((name, text) ∷ texts) answer x z
all_from_rest name text texts (Ok _) done x y z first rest = rest ∙ ap (written texts) first
all_from_rest name text texts (Err refusal) done x y z first rest =
    inr (subst (λ f. IsDivided texts f z) first rest)

-- a first file whose writing is refused
pub all_from_refused : {E : Type 0} (name text : List ℕ) (texts : List (List ℕ × List ℕ))
    (refusal : E) (x y : Files) → Writes {E = E} name text (Err refusal) x y
    → WritesAll {E = E} ((name, text) ∷ texts) (Err refusal) x y
all_from_refused name text texts refusal x y part = inl part
