-- The box that has to be searched for a repair, or the refusal of a box that is open in too many parameters.
use Rattle.std.specs.Prelude.{◌≡◌, ℕ, nat_lt, List, Result, Ok, Err, if◌then◌else◌}
use Rattle.std.specs.declared.option.Option.TheVariants.{Some, None}
use Rattle.qf_base.specs.Values.{Bounds}
use Rattle.qf_base.specs.declared.refusal.Refusal.{Refusal}
use Rattle.qf_base.specs.declared.refusal.Kind.TheVariants.{TooManyFree}
use Rattle.qf_slice.specs.RootBox.{IsRootBox, open_count}
use Rattle.qf_inputs.specs.Inputs.{AreInputs}
use Rattle.qf_inputs.specs.declared.inputs.Inputs.{Inputs}
use Rattle.qf_inputs.specs.declared.opened.Opened.{Opened}

-- so many parameters may be open
abbrev pub most_open : ℕ
most_open = 64

abbrev pub too_many_free : ℕ → Refusal
too_many_free count = record { kind = TooManyFree; first = Some count; second = None }

abbrev pub opened_with : Inputs → Bounds → Result Opened Refusal
opened_with inputs root =
    if nat_lt most_open (open_count root) then Err (too_many_free (open_count root))
    else Ok (record { problem = inputs.problem; log = inputs.log; root = root })

abbrev pub inputs_in : Opened → Inputs
inputs_in opened = record { problem = opened.problem; log = opened.log }

-- a root box is opened, unless too many parameters are open in it
pub record IsOpened (inputs : Inputs) (opened : Result Opened Refusal) : Type 0 where
  pub root : Bounds
  pub is_root : IsRootBox inputs.problem root
  pub opened_is : opened ≡ opened_with inputs root

abbrev pub IsOpenedBy : Result Inputs Refusal → Result Opened Refusal → Type 0
IsOpenedBy (Err refusal) opened = opened ≡ Err refusal
IsOpenedBy (Ok inputs) opened = IsOpened inputs opened

-- what the four files say together with the box that has to be searched, or their first refusal
pub record IsQuestion (initial log complaints domains : List ℕ) (opened : Result Opened Refusal) : Type 0 where
  pub inputs : Result Inputs Refusal
  pub are_inputs : AreInputs initial log complaints domains inputs
  pub is_opened : IsOpenedBy inputs opened
