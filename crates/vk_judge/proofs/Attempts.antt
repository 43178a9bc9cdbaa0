-- What named files come to, from what is read of their first lines on.
use Rattle.std.proofs.Common.{◌≡◌, ℕ, List, Result, Ok, refl, ap, ◌∙◌}
use Rattle.std.specs.FinMap.{get}
use Rattle.vk_residue.specs.Steps.{◌>>=◌}
use Rattle.vk_io.specs.Files.{Files}
use Rattle.vk_lines.specs.Lines.{Rest}
use Rattle.vk_judge.specs.declared.answers.Part.TheVariants as part
use Rattle.vk_judge.specs.declared.answers.VErr.{VErr}
use Rattle.vk_judge.specs.Begun.{begun_file, five_rests, of_attempt, of_files, three_rests}
use Rattle.vk_judge.proofs.Steps.{bind_ok, value_same}

pub attempt_begun : {X : Type 0} (whole : Rest → Rest → Rest → X) (files : Files)
    (file challenge reply : List ℕ)
    → of_attempt whole files file challenge reply
    ≡ (of_attempt three_rests files file challenge reply >>= λ rests.
    Ok (whole rests.0 rests.1 rests.2))
attempt_begun whole files file challenge reply =
    by_three (begun_file part.Board (get files file))
    (begun_file part.Challenge (get files challenge)) (begun_file part.Reply (get files reply))
  where
    by_three : (a b c : Result Rest VErr)
        → (a >>= λ a. b >>= λ b. c >>= λ c. Ok (whole a b c))
        ≡ ((a >>= λ a. b >>= λ b. c >>= λ c. Ok (three_rests a b c)) >>= λ rests.
        Ok (whole rests.0 rests.1 rests.2))
    by_three (Ok a) (Ok b) (Ok c) = refl
    by_three a b c = refl

-- ---- two replies

pub files_begun : {X : Type 0} (whole : Rest → Rest → Rest → Rest → Rest → X) (files : Files)
    (file first_challenge first_reply second_challenge second_reply : List ℕ)
    → of_files whole files file first_challenge first_reply second_challenge second_reply
    ≡ (of_files five_rests files file first_challenge first_reply second_challenge second_reply >>=
    λ rests. Ok (whole rests.0 rests.1 rests.2 rests.3 rests.4))
files_begun whole files file first_challenge first_reply second_challenge second_reply =
    by_five (begun_file part.Board (get files file))
    (begun_file part.Challenge (get files first_challenge))
    (begun_file part.Reply (get files first_reply))
    (begun_file part.SecondChallenge (get files second_challenge))
    (begun_file part.SecondReply (get files second_reply))
  where
    by_five : (a b c d e : Result Rest VErr)
        → (a >>= λ a. b >>= λ b. c >>= λ c. d >>= λ d. e >>= λ e. Ok (whole a b c d e))
        ≡ ((a >>= λ a. b >>= λ b. c >>= λ c. d >>= λ d. e >>= λ e. Ok (five_rests a b c d e)) >>=
        λ rests. Ok (whole rests.0 rests.1 rests.2 rests.3 rests.4))
    by_five (Ok a) (Ok b) (Ok c) (Ok d) (Ok e) = refl
    by_five a b c d e = refl

-- the first of them is begun where all are
pub file_begun : (files : Files)
    (file first_challenge first_reply second_challenge second_reply : List ℕ)
    (rests : Rest × Rest × Rest × Rest × Rest)
    → of_files five_rests files file first_challenge first_reply second_challenge second_reply
    ≡ Ok rests → begun_file part.Board (get files file) ≡ Ok rests.0
file_begun files file first_challenge first_reply second_challenge second_reply rests ok =
    let a = bind_ok (begun_file part.Board (get files file)) _ rests ok in
    let b = bind_ok (begun_file part.Challenge (get files first_challenge)) _ rests a.2 in
    let c = bind_ok (begun_file part.Reply (get files first_reply)) _ rests b.2 in
    let d = bind_ok (begun_file part.SecondChallenge (get files second_challenge)) _ rests c.2 in
    let e = bind_ok (begun_file part.SecondReply (get files second_reply)) _ rests d.2 in
    a.1 ∙ ap (λ (r : Rest × Rest × Rest × Rest × Rest). Ok r.0) (value_same _ rests e.2)
