-- The body of a reader of lines: the bytes that it holds, and what they show of its file.
use Rattle.std.specs.Prelude.{◌≡◌, ℕ, ◌+◌, ◌≤◌, ◌⊎◌, List, ◌++◌, Option, Result, take, drop}
use Rattle.vk_io.specs.declared.errors.OutsideErr.{OutsideErr}
use Rattle.vk_io.specs.declared.errors.OutsideErr.TheVariants.{Failed, NoMemory}
use Rattle.vk_io.specs.Faults.{Causes}
use Rattle.vk_io.specs.Files.{Files}
use Rattle.vk_lines.specs.declared.step.Step.{Step}
use Rattle.vk_lines.specs.declared.step.Step.TheVariants.{Text, End, Long, Cut}
use Rattle.vk_lines.specs.Lines.{LinesValue, OnlyReads, feed_at, rest_of}

-- the last line taken, the bytes that were read behind it, and how many more there is room for
pub record BufferValue : Type 0 where
  pub text : List ℕ
  pub ahead : List ℕ
  pub free : ℕ

-- where the parts of a buffer begin and end
pub record AreInOrder (first feed next end : ℕ) : Type 0 where
  pub line : first ≤ feed
  pub short : feed ≤ first + 255
  pub gap : feed ≤ next
  pub small : next ≤ feed + 1
  pub ahead : next ≤ end
  pub within : end ≤ 4096

-- of the bytes left, so many show what stands next: with those ahead they are as many as a line may
-- have, or all
pub record IsEnough (ahead left asked : ℕ) : Type 0 where
  pub within : asked ≤ left
  pub enough : (256 ≤ ahead + asked) ⊎ (asked ≡ left)

-- a reader that has read these bytes more
abbrev pub with_piece : List ℕ → LinesValue → LinesValue
with_piece piece lines = record lines { ahead = lines.ahead ++ piece }

-- nothing but what is ahead has changed, and what is left is the same; the bytes ahead show what
-- stands next
pub record HasLooked (old new : LinesValue) (files : Files) : Type 0 where
  pub rest : rest_of new files ≡ rest_of old files
  pub taken : new.taken ≡ old.taken
  pub text : new.text ≡ old.text
  pub near : take 256 (rest_of new files).left ≡ take 256 new.ahead

-- a reader after this step among the bytes ahead
abbrev pub after_step : Step → LinesValue → LinesValue
after_step Text lines = record lines {
  at = lines.at + (feed_at lines.ahead + 1);
  taken = lines.taken + 1;
  ahead = drop (feed_at lines.ahead + 1) lines.ahead;
  text = take (feed_at lines.ahead) lines.ahead;
}
after_step End lines = lines
after_step Long lines = lines
after_step Cut lines = lines

-- a call that only reads from a shelf and takes no memory: each refusal is the shelf's own, which
-- counts it
pub record OnlyAsks {S T : Type 0} (modelled : S → Option Files) (faults wanted : S → ℕ)
    (result : Result T OutsideErr) (before after : S) : Type 0 where
  pub shelf : OnlyReads modelled faults Failed result before after
  pub wants : Causes NoMemory result (wanted before) (wanted after)
