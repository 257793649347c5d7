-- The number of each refusal of an answer. Assumes nothing.
use Rattle.std.specs.Prelude.{ℕ}
use Rattle.promise.specs.declared.reading.ReadRefusal.{ReadRefusal}
use Rattle.promise.specs.declared.reading.ReadRefusal.TheVariants.{ShortBuffer, BadLine, BadStatus, StrayValues, BadWord, BadEnd, NotOnce, VoidJob, Unordered, Unmet}

abbrev pub number : ReadRefusal → ℕ
number ShortBuffer = 15
number BadLine = 16
number BadStatus = 17
number StrayValues = 18
number BadWord = 19
number BadEnd = 20
number NotOnce = 21
number VoidJob = 22
number (Unordered x) = 23
number (Unmet p) = 24
