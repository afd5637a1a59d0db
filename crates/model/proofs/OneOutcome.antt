-- The contracts of the public functions determine their results: two outcomes that a contract allows are the same.
use Rattle.std.specs.Prelude.{◌≡◌, ℕ}
use Rattle.std.proofs.Common.{sym, ◌∙◌}
use Rattle.model.specs.State.{free_row, fresh_worker, idle_worker, empty_catalogue}
use Rattle.model.specs.Numbers.{answer_number, answer_element, refusal_number}
use Rattle.model.specs.declared.Row.{Row}
use Rattle.model.specs.declared.Answer.{Answer}
use Rattle.model.specs.declared.Refusal.{Refusal}
use Rattle.model.specs.declared.Line.{Line}
use Rattle.model.specs.declared.Worker.{Worker}
use Rattle.model.specs.declared.Catalogue.{Catalogue}

-- of every contract that gives the result as the value of a definition
pub determined : {A : Type 0} (value : A) (r q : A) → r ≡ value → q ≡ value → r ≡ q
determined value r q one other = one ∙ sym other

pub free_row_once : (r q : Row) → r ≡ free_row → q ≡ free_row → r ≡ q
free_row_once = determined free_row

pub idle_worker_once : (a : Answer) (r q : Worker) → r ≡ idle_worker a → q ≡ idle_worker a → r ≡ q
idle_worker_once a = determined (idle_worker a)

pub empty_once : (r q : Catalogue) → r ≡ empty_catalogue → q ≡ empty_catalogue → r ≡ q
empty_once = determined empty_catalogue

pub fresh_worker_once : (line : Line) (r q : Worker) → r ≡ fresh_worker line → q ≡ fresh_worker line → r ≡ q
fresh_worker_once line = determined (fresh_worker line)

pub answer_number_once : (a : Answer) (n m : ℕ) → n ≡ answer_number a → m ≡ answer_number a → n ≡ m
answer_number_once a = determined (answer_number a)

pub answer_element_once : (a : Answer) (n m : ℕ) → n ≡ answer_element a → m ≡ answer_element a → n ≡ m
answer_element_once a = determined (answer_element a)

pub refusal_number_once : (r : Refusal) (n m : ℕ) → n ≡ refusal_number r → m ≡ refusal_number r → n ≡ m
refusal_number_once r = determined (refusal_number r)
