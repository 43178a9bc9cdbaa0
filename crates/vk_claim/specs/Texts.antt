-- The text of a claim file, part by part and line by line.
use Rattle.std.specs.Prelude.{ℕ, List, [], ◌∷◌, ◌++◌, codes, decimal, length}
use Rattle.std.specs.List.{flat_map}
use Rattle.vk_lines.specs.Forms.{line, spaced}
use Rattle.vk_lines.specs.Tokens.{hex_text}
use Rattle.vk_board.specs.Texts.{behind_text, seal_lines_text}
use Rattle.vk_claim.specs.declared.front.ClaimHead.{ClaimHead}
use Rattle.vk_words.specs.Claims.{kind_word}
use Rattle.vk_claim.specs.declared.front.ClaimFront.{ClaimFront}
use Rattle.vk_claim.specs.Values.{ClaimFile}

-- how many numbers there are, and then each
unfoldable pub numbers_text : List ℕ → List ℕ
numbers_text numbers =
    line (spaced (codes "numbers" ∷ decimal (length numbers) ∷ []))
    ++ flat_map (λ number. line (spaced (codes "n" ∷ decimal number ∷ []))) numbers

unfoldable pub claim_head_text : ClaimHead → List ℕ
claim_head_text head =
    line (codes "vickrey-claim 1")
    ++ (line (spaced (codes "auction" ∷ hex_text head.auction ∷ []))
    ++ (line (spaced (codes "kind" ∷ kind_word head.kind ∷ []))
    ++ (line (spaced (codes "lanes" ∷ decimal head.lanes ∷ []))
    ++ (line (spaced (codes "inputs" ∷ decimal head.inputs ∷ []))
    ++ numbers_text head.numbers))))

abbrev pub claim_front_text : ClaimFront → List ℕ
claim_front_text front = claim_head_text front.head ++ flat_map seal_lines_text front.seals

unfoldable pub claim_text : ClaimFile → List ℕ
claim_text file = claim_head_text file.head ++ behind_text file.seals file.lanes
