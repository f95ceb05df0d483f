-- The text of one step of editing.
use Rattle.std.specs.Prelude.{ℕ, List, [], ◌++◌, Option, Some, None}
use Rattle.sdp_edit.specs.declared.step.Step.{Step}

-- a line that is written, if any is
abbrev pub text_or_none : Option (List ℕ) → List ℕ
text_or_none None = []
text_or_none (Some text) = text

-- what is written for one line
abbrev pub step_text : Step → List ℕ
step_text step = text_or_none step.image ++ text_or_none step.connection ++ text_or_none step.mux ++ (text_or_none step.first_key ++ text_or_none step.second_key)
