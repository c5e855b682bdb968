-- Parts of one token, and the beginning of a form, are live and closed.
use Rattle.readers.proofs.Shapes.{shut_one}
use Rattle.edif_keywords.specs.Grammar.{word, string, integer, view_type}
use Rattle.edif_keywords.specs.Reasons as say
use Rattle.edif_keywords.proofs.Live.{Closes}

pub closed_word : Closes word
closed_word table = shut_one table (λ _ x. say.word_of x.token)

pub closed_string : Closes string
closed_string table = shut_one table (λ _ x. say.string_of x.token)

pub closed_integer : Closes integer
closed_integer table = shut_one table (λ _ x. say.integer_of x.token)

pub closed_view_type : Closes view_type
closed_view_type table = shut_one table (λ _ x. say.view_type_of x.token)
