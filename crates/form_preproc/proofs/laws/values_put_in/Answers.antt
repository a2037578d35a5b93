use Rattle.form_preproc.proofs.Quotes.{put_nothing, put_value, put_once, put_unknown, put_unclosed}
use Rattle.form_preproc.proofs.laws.values_put_in.Goals as goal

pub returns : goal.returns
returns c = record { plain = put_nothing; nested = put_value; once = put_once; unknown = put_unknown; unclosed = put_unclosed }
