-- A file that is read piece by piece.
use Rattle.std.proofs.Common.{◌≡◌, ℕ, zero, suc, ◌+◌, List, [], ◌∷◌, ◌++◌, length, take, drop, append_assoc, Option, Some, None, IfSome, refl, sym, ap, subst, ◌∙◌}
use Rattle.std.proofs.lemmas.List.{take_at}
use Rattle.std.proofs.Math.Seq.{take-add}
use Rattle.vk_io.specs.Files.{Files, bytes_of, part_of}

own_length : (n : ℕ) (bytes : List ℕ) → take (length (take n bytes)) bytes ≡ take n bytes
own_length zero bytes = refl
own_length (suc n) [] = refl
own_length (suc n) (b ∷ bytes) = ap (λ t. b ∷ t) (own_length n bytes)

-- the bytes up to a place and a part from there on are the bytes up to the part's end
joined : (bytes : List ℕ) (at room : ℕ)
    → take at bytes ++ part_of bytes at room ≡ take (at + length (part_of bytes at room)) bytes
joined bytes at room =
    ap (λ t. take at bytes ++ t) (sym (own_length room (drop at bytes))) ∙ sym (take-add at _ bytes)

part_joined : (bytes old new into front rest : List ℕ) (at n : ℕ) → old ≡ take at bytes
    → n ≡ length (part_of bytes at (length into))
    → front ≡ part_of bytes at (length into) ++ drop n into → new ≡ old ++ take n (front ++ rest)
    → new ≡ take (at + n) bytes
part_joined bytes old new into front rest at n begun count put grown =
    let part = part_of bytes at (length into) in
    grown
    ∙ ap (λ t. old ++ t) (ap (λ f. take n (f ++ rest)) put
    ∙ ap (take n) (append_assoc part (drop n into) rest)
    ∙ take_at part (drop n into ++ rest) n (sym count))
    ∙ ap (λ t. t ++ part) begun
    ∙ joined bytes at (length into)
    ∙ ap (λ k. take (at + k) bytes) (sym count)

-- where the files are modelled, the bytes read so far and one more piece are the first of the file
pub read_more : (h g : Option Files) (name old new into front rest : List ℕ) (at n : ℕ) → g ≡ h
    → IfSome h (λ files. old ≡ take at (bytes_of files name))
    → IfSome g (λ files. n ≡ length (part_of (bytes_of files name) at (length into)))
    → IfSome g (λ files. front ≡ part_of (bytes_of files name) at (length into) ++ drop n into)
    → new ≡ old ++ take n (front ++ rest)
    → IfSome h (λ files. new ≡ take (at + n) (bytes_of files name))
read_more h g name old new into front rest at n same =
    subst (λ o. IfSome o (λ files. old ≡ take at (bytes_of files name))
    → IfSome g (λ files. n ≡ length (part_of (bytes_of files name) at (length into)))
    → IfSome g (λ files. front ≡ part_of (bytes_of files name) at (length into) ++ drop n into)
    → new ≡ old ++ take n (front ++ rest)
    → IfSome o (λ files. new ≡ take (at + n) (bytes_of files name))) same (here g)
  where
    here : (o : Option Files) → IfSome o (λ files. old ≡ take at (bytes_of files name))
        → IfSome o (λ files. n ≡ length (part_of (bytes_of files name) at (length into)))
        → IfSome o (λ files. front ≡ part_of (bytes_of files name) at (length into) ++ drop n into)
        → new ≡ old ++ take n (front ++ rest)
        → IfSome o (λ files. new ≡ take (at + n) (bytes_of files name))
    here None begun count put grown = tt
    here (Some files) begun count put grown =
        part_joined (bytes_of files name) old new into front rest at n begun count put grown
