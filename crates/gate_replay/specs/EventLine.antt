-- The step that a line of a schedule describes.
use Rattle.std.specs.Prelude.{ℕ, ℤ, pos, neg_ℤ, true, if◌then◌else◌, List, [], ◌∷◌, Result, Ok, Err, codes}
use Rattle.std.specs.List.{list_all}
use Rattle.std.specs.Str.{bytes_eq}
use Rattle.line_text.specs.Integers.{integer_in}
use Rattle.line_text.specs.Words.{no_words, one_word, two_words, three_words}
use Rattle.line_text.specs.Numbers.{◌>>=◌, is_digit, number_in}
use Rattle.line_text.specs.declared.fault.Why.{Why}
use Rattle.line_text.specs.declared.fault.Why.TheVariants.{UnknownWord, MissingWord}
use Rattle.gate_replay.specs.declared.event_line.OneNumber.{OneNumber}
use Rattle.gate_replay.specs.declared.event_line.SlotExchange.{SlotExchange}
use Rattle.percpu_core.specs.declared.event.Event.{Event}
use Rattle.percpu_core.specs.declared.event.Event.TheVariants.{Pass, Control}
use Rattle.percpu_core.specs.declared.pass_event.PassEvent.{PassEvent}
use Rattle.percpu_core.specs.declared.pass_event.PassEvent.TheVariants as of_pass
use Rattle.percpu_core.specs.declared.control_event.ControlEvent.{ControlEvent}
use Rattle.percpu_core.specs.declared.control_event.ControlEvent.TheVariants as of_control

-- the number of a pass or of a guarded word
abbrev pub number_32 : List ℕ → Result ℕ Why
number_32 word = number_in 0 4294967295 word

-- a step of this pass that takes no number
abbrev pub plain : PassEvent → List ℕ → List (List ℕ) → Result Event Why
plain step pass words =
    no_words words >>= λ none.
    number_32 pass >>= λ pass.
    Ok (Pass pass step)

-- this pass, and the one number that is left, from 0 to `most`
abbrev pub one_number_of : ℕ → List ℕ → List (List ℕ) → Result OneNumber Why
one_number_of most pass words =
    one_word words >>= λ word.
    number_32 pass >>= λ pass.
    number_in 0 most word >>= λ n.
    Ok (record { pass = pass; number = n })

abbrev pub look_of : List ℕ → List (List ℕ) → Result Event Why
look_of pass words = one_number_of 4294967295 pass words >>= λ said. Ok (Pass said.pass (of_pass.Look said.number))

-- what a slot is said to hold
abbrev pub delta_in : List ℕ → Result ℤ Why
delta_in word = integer_in (neg_ℤ (pos 4294967295)) (pos 4294967295) true word

-- this pass, and the three numbers that are left: a slot, what was seen in it, and an amount
abbrev pub exchange_of : List ℕ → List (List ℕ) → Result SlotExchange Why
exchange_of pass words =
    three_words words >>= λ word.
    number_32 pass >>= λ pass.
    number_32 word.0 >>= λ slot.
    delta_in word.1 >>= λ seen.
    number_in 0 65535 word.2 >>= λ n.
    Ok (record { pass = pass; slot = slot; seen = seen; n = n })

abbrev pub take_of : List ℕ → List (List ℕ) → Result Event Why
take_of pass words = exchange_of pass words >>= λ said. Ok (Pass said.pass (of_pass.Take said.slot said.seen said.n))

abbrev pub give_of : List ℕ → List (List ℕ) → Result Event Why
give_of pass words = exchange_of pass words >>= λ said. Ok (Pass said.pass (of_pass.Give said.slot said.seen said.n))

abbrev pub get_of : List ℕ → List (List ℕ) → Result Event Why
get_of pass words = one_number_of 65535 pass words >>= λ said. Ok (Pass said.pass (of_pass.AddGet said.number))

abbrev pub sub_of : List ℕ → List (List ℕ) → Result Event Why
sub_of pass words = one_number_of 65535 pass words >>= λ said. Ok (Pass said.pass (of_pass.Sub said.number))

abbrev pub word_of : List ℕ → List (List ℕ) → Result Event Why
word_of pass words = one_number_of 4294967295 pass words >>= λ said. Ok (Pass said.pass (of_pass.LoadWord said.number))

-- after `add`
abbrev pub addition_of : List ℕ → List (List ℕ) → Result Event Why
addition_of pass [] = Err MissingWord
addition_of pass (name ∷ words) =
    if bytes_eq name (codes "try") then plain of_pass.AddTry pass words
    else if bytes_eq name (codes "live") then plain of_pass.AddLive pass words
    else if bytes_eq name (codes "get") then get_of pass words
    else Err UnknownWord

-- after the pass's number
abbrev pub pass_step_of : List ℕ → List (List ℕ) → Result Event Why
pass_step_of pass [] = Err MissingWord
pass_step_of pass (name ∷ words) =
    if bytes_eq name (codes "add") then addition_of pass words
    else if bytes_eq name (codes "sub") then sub_of pass words
    else if bytes_eq name (codes "undo") then plain of_pass.Undo pass words
    else if bytes_eq name (codes "mark") then plain of_pass.Mark pass words
    else if bytes_eq name (codes "look") then look_of pass words
    else if bytes_eq name (codes "take") then take_of pass words
    else if bytes_eq name (codes "give") then give_of pass words
    else if bytes_eq name (codes "shared") then plain of_pass.LookShared pass words
    else if bytes_eq name (codes "front") then plain of_pass.LoadFront pass words
    else if bytes_eq name (codes "word") then word_of pass words
    else Err UnknownWord

-- a step of the control that takes no number
abbrev pub alone : ControlEvent → List (List ℕ) → Result Event Why
alone step words = no_words words >>= λ none. Ok (Control step)

abbrev pub store_of : List (List ℕ) → Result Event Why
store_of words =
    two_words words >>= λ word.
    number_32 word.0 >>= λ k.
    number_in 0 18446744073709551615 word.1 >>= λ v.
    Ok (Control (of_control.StoreWord k v))

abbrev pub join_of : List (List ℕ) → Result Event Why
join_of words =
    one_word words >>= λ word.
    number_32 word >>= λ pass.
    Ok (Control (of_control.Join pass))

-- after `c`
abbrev pub control_step_of : List (List ℕ) → Result Event Why
control_step_of [] = Err MissingWord
control_step_of (name ∷ words) =
    if bytes_eq name (codes "dead") then alone of_control.MarkDead words
    else if bytes_eq name (codes "close") then alone of_control.Close words
    else if bytes_eq name (codes "collect") then alone of_control.Collect words
    else if bytes_eq name (codes "confirm") then alone of_control.Confirm words
    else if bytes_eq name (codes "base") then alone of_control.DropBase words
    else if bytes_eq name (codes "mark") then alone of_control.Mark words
    else if bytes_eq name (codes "take") then alone of_control.TakeBase words
    else if bytes_eq name (codes "front") then alone of_control.NextFront words
    else if bytes_eq name (codes "clear") then alone of_control.ClearDead words
    else if bytes_eq name (codes "bias") then alone of_control.AddBias words
    else if bytes_eq name (codes "open") then alone of_control.OpenNext words
    else if bytes_eq name (codes "store") then store_of words
    else if bytes_eq name (codes "join") then join_of words
    else if bytes_eq name (codes "shared") then alone of_control.LookShared words
    else Err UnknownWord

-- a pass is named by digits, however many, and the control by `c`
abbrev pub event_of : List (List ℕ) → Result Event Why
event_of [] = Err UnknownWord
event_of (first ∷ words) =
    if list_all is_digit first then pass_step_of first words
    else if bytes_eq first (codes "c") then control_step_of words
    else Err UnknownWord
