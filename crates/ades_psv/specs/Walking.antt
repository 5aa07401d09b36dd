-- Lines that are read one after another, from what was reached so far.
use Rattle.std.specs.Prelude.{◌≡◌, ℕ, ◌+◌, List, [], ◌∷◌, ◌++◌, Result, Ok, Err}
use Rattle.obs_record.specs.declared.rule.HeaderFault.{HeaderFault}
use Rattle.ades_psv.specs.declared.fault.PsvFault.{PsvFault}
use Rattle.ades_psv.specs.declared.fault.PsvFault.TheVariants as faults
use Rattle.ades_psv.specs.declared.header.Place.TheVariants.{Listing}
use Rattle.ades_psv.specs.declared.header.Step.{Step}
use Rattle.ades_psv.specs.declared.header.Step.TheVariants.{On, Data, Fault}
use Rattle.ades_psv.specs.Headers.{step}
use Rattle.ades_psv.specs.Batch.{read_of}
use Rattle.ades_psv.specs.Feeding.{Progress, Fed}

-- the answer is what is to be said, a fault with its line; or memory was refused
abbrev pub IsAnswer : {A : Type 0} → Result A (HeaderFault × ℕ) → Result A PsvFault → Type 0
IsAnswer said (Ok x) = said ≡ Ok x
IsAnswer said (Err (faults.Header fault line)) = said ≡ Err (fault, line)
IsAnswer said (Err faults.NoMemory) = Unit {0}

-- the same of an answer that stands for what is to be said
abbrev pub Gives : {A B : Type 0} → (B → A) → Result A (HeaderFault × ℕ) → Result B PsvFault → Type 0
Gives view said (Ok x) = said ≡ Ok (view x)
Gives view said (Err fault) = IsAnswer said (Err fault)

-- how far a batch was read once one more line was, by what it is
abbrev pub line_on : Progress → List ℕ → Step → Fed
line_on p text (On next) = Ok (record p { place = next; count = p.count + 1 })
line_on p text (Data columns) =
    Ok (record p {
      place = Listing columns;
      count = p.count + 1;
      found = p.found ++ read_of (record { columns = columns; number = p.count + 1; text = text }) ∷ [];
    })
line_on p text (Fault fault) = Err (fault, p.count + 1)

-- one more line was read
abbrev pub line_read : Progress → List ℕ → Fed
line_read p text = line_on p text (step p.place text)
