-- What a sink took of lines that were printed one after another, where it refused one.
use Rattle.std.proofs.Common.{◌≡◌, ℕ, ◌+◌, ◌<◌, ◌≤◌, List, ◌++◌, length, take, drop, suc, get_or, Option, Some, None, Err, sym, ap, subst, ◌∙◌, append_assoc, arith}
use Rattle.std.specs.Prelude.{option_map}
use Rattle.std.specs.List.{flat_map}
use Rattle.std.proofs.lemmas.Grind.{flat_map-append}
use Rattle.std.proofs.lemmas.List.{length-append, take-append-le, take-append-drop}
use Rattle.std.proofs.Math.Seq.{take-append-add, drop-cons}
use Rattle.vk_io.specs.Files.{Modelled, Takes}

take_into : (front piece more : List ℕ) (k : ℕ) → k ≤ length piece
    → take (length front + k) (front ++ (piece ++ more)) ≡ front ++ take k piece
take_into front piece more k le = take-append-add front (piece ++ more) k
    ∙ ap (λ t. front ++ t) (take-append-le k piece more le)

-- the text before were taken, and of this one a part
taken_at_stop : {E F : Type 0} (refusal : E) (stop : F) (start now new : Option (List ℕ))
    (front piece more : List ℕ) → now ≡ option_map (λ before. before ++ front) start
    → Modelled (Takes piece (Err refusal)) now new
    → Modelled (Takes (front ++ (piece ++ more)) (Err stop)) start new
taken_at_stop refusal stop None now new front piece more is told =
    subst (λ o. Modelled (Takes piece (Err refusal)) o new) is told
taken_at_stop refusal stop (Some before) now None front piece more is told =
    subst (λ o. Modelled (Takes piece (Err refusal)) o None) is told
taken_at_stop refusal stop (Some before) now (Some taken) front piece more is told =
    let part = subst (λ o. Modelled (Takes piece (Err refusal)) o (Some taken)) is told in (
      length front + part.0,
      omega
          (arith, part.1, length-append front (piece ++ more), length-append piece more),
      part.2
          ∙ append_assoc before front (take part.0 piece)
          ∙ ap (λ t. before ++ t) (sym (take_into front piece more part.0 part.1)),
    )

-- the lines before were taken, and of this one a part
pub lines_at_stop : {X E F : Type 0} (f : X → List ℕ) (lines : List X) (i : ℕ) (line : X)
    (piece : List ℕ) (refusal : E) (stop : F) (start now new : Option (List ℕ)) → i < length lines
    → line ≡ get_or lines i line → piece ≡ f line
    → now ≡ option_map (λ before. before ++ flat_map f (take i lines)) start
    → Modelled (Takes piece (Err refusal)) now new
    → Modelled (Takes (flat_map f lines) (Err stop)) start new
lines_at_stop f lines i line piece refusal stop start now new within is piece-is taken told =
    let front = flat_map f (take i lines) in
    let more = flat_map f (drop (suc i) lines) in
    let rest : flat_map f (drop i lines) ≡ piece ++ more =
    ap (flat_map f) (drop-cons lines i line within) ∙ ap (λ l. f l ++ more) (sym is)
    ∙ ap (λ t. t ++ more) (sym piece-is) in
    let parts : flat_map f lines ≡ front ++ (piece ++ more) =
    ap (flat_map f) (sym (take-append-drop i lines))
    ∙ flat_map-append f (take i lines) (drop i lines) ∙ ap (λ t. front ++ t) rest in
    subst (λ text. Modelled (Takes text (Err stop)) start new) (sym parts)
    (taken_at_stop refusal stop start now new front piece more taken told)
