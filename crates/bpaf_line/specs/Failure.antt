-- What the end of a run without a value gives to a program, and how it is told to those around it.
use Rattle.std.specs.Prelude.{ℕ, List, Option, Some, None, ℤ, pos, Bool, true, false}
use Rattle.bpaf_doc.specs.Print.{printed}
use Rattle.bpaf_line.specs.declared.failure.ParseFailure.{ParseFailure}
use Rattle.bpaf_line.specs.declared.error.Message.{Message}
use Rattle.bpaf_line.specs.declared.error.Message.TheVariants as message
use Rattle.bpaf_line.specs.declared.failure.ParseFailure.TheVariants as failure
use Rattle.bpaf_line.specs.declared.failure.ParseFailure.TheVariants.{Stdout, Stderr, Memory}

-- the text that was asked for
abbrev pub stdout_text : ParseFailure → Option (List ℕ)
stdout_text (Stdout doc full) = Some (printed full doc)
stdout_text (Stderr doc) = None
stdout_text Memory = None

-- the message
abbrev pub stderr_text : ParseFailure → Option (List ℕ)
stderr_text (Stdout doc full) = None
stderr_text (Stderr doc) = Some (printed true doc)
stderr_text Memory = None

-- the status
abbrev pub exit_code : ParseFailure → ℤ
exit_code (Stdout doc full) = pos 0
exit_code (Stderr doc) = pos 1
exit_code Memory = pos 1

-- the end of an inner run as a refusal, which only `catch` catches; want of memory stays that
abbrev pub end_message : ParseFailure → Message
end_message failure.Memory = message.Memory
end_message (failure.Stdout text full) = message.ParseFailure (failure.Stdout text full)
end_message (failure.Stderr text) = message.ParseFailure (failure.Stderr text)

-- the answer of an inner run that shows what was asked for
abbrev pub is_shown : Message → Bool
is_shown (message.ParseFailure (failure.Stdout doc full)) = true
is_shown _ = false
