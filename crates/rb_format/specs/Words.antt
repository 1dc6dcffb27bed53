-- Defines the error code of a file's fault: the variant's name.
use Rattle.std.specs.Prelude.{ℕ, List, codes}
use Rattle.rb_format.specs.declared.fault.FileFault.{FileFault}
use Rattle.rb_format.specs.declared.fault.FileFault.TheVariants as faults

abbrev pub word_of : FileFault → List ℕ
word_of faults.TooLong = codes "TooLong"
word_of faults.Header = codes "Header"
word_of faults.BigEndian = codes "BigEndian"
word_of faults.Family = codes "Family"
word_of faults.FormatVersion = codes "FormatVersion"
word_of faults.Indexes = codes "Indexes"
word_of faults.Attributes = codes "Attributes"
word_of faults.Root = codes "Root"
word_of faults.ItemType = codes "ItemType"
word_of faults.Offset = codes "Offset"
word_of faults.Length = codes "Length"
word_of faults.NotTerminated = codes "NotTerminated"
word_of faults.Key = codes "Key"
word_of faults.KeyOrder = codes "KeyOrder"
word_of faults.TooDeep = codes "TooDeep"
word_of faults.Memory = codes "Memory"
